-- A Bool test and the claim that it decides.
use Rattle.std.specs.Prelude.{◌≡◌, Bool, true, false}

-- b says P: P holds where b is true, and does not where b is false
pub record Says (b : Bool) (P : Type 0) : Type 0 where
  pub yes : b ≡ true → P
  pub no : b ≡ false → P → ⊥

-- b bars G: G holds where b is false, and does not where b is true. A rule's test is a "bad", so it bars the rule's claim
pub record Bars (b : Bool) (G : Type 0) : Type 0 where
  pub ok : b ≡ false → G
  pub bad : b ≡ true → G → ⊥
