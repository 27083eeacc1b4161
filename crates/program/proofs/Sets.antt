-- Each test of specs/Sets.antt says its claim.
use Prim.Native.Nat.{ℕ}
use Rattle.theory.specs.Claim.{Says}
use Rattle.theory.proofs.Bools.{says-or, says_eq, says-lt, ◌and◌}
use Rattle.theory.proofs.Search.{any-says}
use Rattle.program.specs.Tables.{Tables, input, output, private}
use Rattle.program.specs.Sets.{is_kind, is_task_port, mode_port_at, may_take, may_give, is_input, is_output, is_mode_port, copies_from, copies_to}
use Rattle.program.specs.Sets.{is_source, is_destination, OfKind, MayTake, MayGive, Input, Output, ModePort, Source, Destination}

module _ (T : Tables) where
  -- the test says that port p is declared and of the kind
  pub kind-says : (k p : ℕ) → Says (is_kind T k p) (OfKind T k p)
  unfolding is_kind
  kind-says k p = says-lt _ _ and says_eq _ _

  -- the tests say that port p is one that a task takes, one that it gives
  pub may-take-says : (p : ℕ) → Says (may_take T p) (MayTake T p)
  unfolding may_take
  may-take-says p = says-or (kind-says input p) (kind-says private p)

  pub may-give-says : (p : ℕ) → Says (may_give T p) (MayGive T p)
  unfolding may_give
  may-give-says p = says-or (kind-says output p) (kind-says private p)

  -- the test says that port p is an input of task t
  pub input-says : (t p : ℕ) → Says (is_input T t p) (Input T t p)
  unfolding is_input is_task_port
  input-says t p = kind-says input p and any-says _ _ (λ k. says_eq _ _ and says_eq _ _) _

  -- the test says that port p is an output of task t
  pub output-says : (t p : ℕ) → Says (is_output T t p) (Output T t p)
  unfolding is_output is_task_port
  output-says t p = kind-says output p and any-says _ _ (λ k. says_eq _ _ and says_eq _ _) _

  -- the test says that port p is a port of mode m
  pub mode-port-says : (m p : ℕ) → Says (is_mode_port T m p) (ModePort T m p)
  unfolding is_mode_port mode_port_at
  mode-port-says m p = any-says _ _ (λ k. says_eq _ _ and says_eq _ _) _

  -- the test says that port p is a source of driver d: of a copy, or the port of its interval guard
  pub source-says : (d p : ℕ) → Says (is_source T d p) (Source T d p)
  unfolding is_source copies_from
  source-says d p =
      says-or (any-says _ _ (λ c. says_eq _ _ and says_eq _ _) _) (says_eq _ _ and says_eq _ _)

  -- the test says that port p is a destination of driver d
  pub destination-says : (d p : ℕ) → Says (is_destination T d p) (Destination T d p)
  unfolding is_destination copies_to
  destination-says d p = any-says _ _ (λ c. says_eq _ _ and says_eq _ _) _
