-- Truth values: what two tests say together, and how a test's claim follows its connectives.
use mathlib.Core.Path.{◌≡◌, refl, sym, ◌∙◌}
use mathlib.Core.Bool.{Bool, true, false, not, ◌&&◌, ◌||◌, true≢false}
use mathlib.Core.Logic.{◌⊎◌, inl, inr, ◌↔◌}
use Prim.Native.Nat.{ℕ, ◌≤◌, ◌<◌}
use native.Mathlib.Omega.{arith}
use lib.Dec.{ltb, leb, eqb}
use borrow.Author.Tests.{ltb-true, ltb-false, leb-true, leb-false, eqb-true, eqb-false, not-true, not-false}
use Rattle.theory.specs.Claim.{Says, Bars}

-- a test cannot both pass and fail
pub clash {ℓ} : {X : Type ℓ} {b : Bool} → b ≡ true → b ≡ false → X
clash p q = absurd (true≢false (sym p ∙ q))

-- where "one or the other" fails, both tests fail
pub neither : (a b : Bool) → (a || b) ≡ false → (a ≡ false) × (b ≡ false)
neither true b e = clash {b = true} refl e
neither false b e = (refl, e)

-- two tests are equal where each passes if the other does
pub iff : (a b : Bool) → (a ≡ true → b ≡ true) → (b ≡ true → a ≡ true) → a ≡ b
iff true b f g = sym (f refl)
iff false true f g = g refl
iff false false f g = refl

-- a test passes where the claim that it says holds
pub is_true : {b : Bool} {P : Type 0} → Says b P → P → b ≡ true
is_true {b = true} s p = refl
is_true {b = false} s p = absurd (s.no refl p)

-- a test fails where the claim that it says does not hold
pub is_false : {b : Bool} {P : Type 0} → Says b P → (P → ⊥) → b ≡ false
is_false {b = true} s n = absurd (n (s.yes refl))
is_false {b = false} s n = refl

-- a test that is turned round says that the claim does not hold
pub says-not : {b : Bool} {P : Type 0} → Says b P → Says (not b) (P → ⊥)
says-not {b = true} s = record { yes = λ e. clash {b = false} e refl; no = λ e n. n (s.yes refl) }
says-not {b = false} s = record { yes = λ e. s.no refl; no = λ e. clash {b = true} refl e }

-- the test that both tests pass says both claims
pub says-and : {a b : Bool} {P Q : Type 0} → Says a P → Says b Q → Says (a && b) (P × Q)
says-and {a = true} s t = record { yes = λ e. (s.yes refl, t.yes e); no = λ e r. t.no e r.1 }
says-and {a = false} s t = record { yes = λ e. clash {b = false} e refl; no = λ e r. s.no refl r.0 }

-- the test that either test passes says one of the claims
pub says-or : {a b : Bool} {P Q : Type 0} → Says a P → Says b Q → Says (a || b) (P ⊎ Q)
says-or {a = true} s t = record { yes = λ e. inl (s.yes refl); no = λ e. clash {b = true} refl e }
says-or {a = false} {b} {P} {Q} s t = record { yes = λ e. inr (t.yes e); no = λ e. go e }
  where
    go : b ≡ false → P ⊎ Q → ⊥
    go e (inl p) = s.no refl p
    go e (inr q) = t.no e q

-- a test that says a claim says it in other words too
pub says-as : {b : Bool} {P Q : Type 0} → Says b P → (P → Q) → (Q → P) → Says b Q
says-as s f g = record { yes = λ e. f (s.yes e); no = λ e q. s.no e (g q) }

-- the test of "below" says that a number is below another
pub says-lt : (a b : ℕ) → Says (ltb a b) (a < b)
says-lt a b = record { yes = ltb-true a b; no = λ e l. omega (arith, ltb-false a b e) }

-- the test of "at most" says that a number is at most another
pub says-le : (a b : ℕ) → Says (leb a b) (a ≤ b)
says-le a b = record { yes = leb-true a b; no = λ e l. omega (arith, leb-false a b e) }

-- the test of equality says that two numbers are equal
pub says_eq : (a b : ℕ) → Says (eqb a b) (a ≡ b)
says_eq a b = record { yes = eqb-true a b; no = eqb-false a b }

-- where a test bars a claim, it fails exactly where the claim holds
pub bars-iff : {b : Bool} {G : Type 0} → Bars b G → (b ≡ false) ↔ G
bars-iff {b = true} s = (s.ok, λ g. absurd (s.bad refl g))
bars-iff {b = false} s = (s.ok, λ g. refl)

-- a test that says a claim bars its contrary
pub bars-says : {b : Bool} {P : Type 0} → Says b P → Bars b (P → ⊥)
bars-says s = record { ok = s.no; bad = λ e n. n (s.yes e) }

-- a test that says a claim, turned round, bars it
pub bars-not : {b : Bool} {P : Type 0} → Says b P → Bars (not b) P
bars-not {b = true} s = record { ok = λ e. s.yes refl; bad = λ e. clash {b = false} e refl }
bars-not {b = false} s = record { ok = λ e. clash {b = true} refl e; bad = λ e p. s.no refl p }

-- a test that bars Q, asked only where a claim P holds, bars that Q follows from P
pub bars-and : {a b : Bool} {P Q : Type 0} → Says a P → Bars b Q → Bars (a && b) (P → Q)
bars-and {a = true} s t = record { ok = λ e p. t.ok e; bad = λ e f. t.bad e (f (s.yes refl)) }
bars-and {a = false} s t = record { ok = λ e p. absurd (s.no refl p); bad = λ e. clash {b = false} e refl }

-- a test that bars a claim bars it in other words too
pub bars-as : {b : Bool} {P Q : Type 0} → Bars b P → (P → Q) → (Q → P) → Bars b Q
bars-as s f g = record { ok = λ e. f (s.ok e); bad = λ e q. s.bad e (g q) }

infixl 30 ◌or◌
-- the test that either test is bad bars both claims together
pub ◌or◌ : {a b : Bool} {P Q : Type 0} → Bars a P → Bars b Q → Bars (a || b) (P × Q)
◌or◌ {a = true} s t = record { ok = λ e. clash {b = true} refl e; bad = λ e r. s.bad refl r.0 }
◌or◌ {a = false} s t = record { ok = λ e. (s.ok refl, t.ok e); bad = λ e r. t.bad e r.1 }

infixl 35 ◌and◌
-- the test that both tests pass says both claims: it is `says-and`, written as the test is
pub ◌and◌ : {a b : Bool} {P Q : Type 0} → Says a P → Says b Q → Says (a && b) (P × Q)
s and t = says-and s t

-- the test that either test is bad bars both claims together, where the second test bars its claim if the first claim holds
pub bars-then : {a b : Bool} {P Q : Type 0} → Bars a P → (P → Bars b Q) → Bars (a || b) (P × Q)
bars-then {a = true} s t = record { ok = λ e. clash {b = true} refl e; bad = λ e r. s.bad refl r.0 }
bars-then {a = false} s t = record { ok = λ e. (s.ok refl, (t (s.ok refl)).ok e); bad = λ e r. (t r.0).bad e r.1 }

-- the test "not the one, or the other" says that the other claim follows from the one
pub says-implies : {a b : Bool} {P Q : Type 0} → Says a P → Says b Q → Says (not a || b) (P → Q)
says-implies {a = true} s t = record { yes = λ e p. t.yes e; no = λ e f. t.no e (f (s.yes refl)) }
says-implies {a = false} s t = record { yes = λ e p. absurd (s.no refl p); no = λ e. clash {b = true} refl e }

-- the test that a limit is exceeded bars being within the limit
pub bars-lt : (a b : ℕ) → Bars (ltb a b) (b ≤ a)
bars-lt a b = bars-as (bars-says (says-lt a b)) (λ n. omega arith) (λ l. omega arith)

-- the test of being at or past the end bars being before the end
pub bars-le : (a b : ℕ) → Bars (leb a b) (b < a)
bars-le a b = bars-as (bars-says (says-le a b)) (λ n. omega arith) (λ l. omega arith)

-- a test that bars a claim, turned round, says it
pub says-bars : {b : Bool} {G : Type 0} → Bars b G → Says (not b) G
says-bars {b = true} s = record { yes = λ e. clash {b = false} e refl; no = λ e. s.bad refl }
says-bars {b = false} s = record { yes = λ e. s.ok refl; no = λ e. clash {b = true} refl e }

-- a test says that it passes
pub says-itself : (b : Bool) → Says b (b ≡ true)
says-itself b = record { yes = λ e. e; no = λ e p. clash p e }

-- a test that is turned round says that it fails
pub says-false : (b : Bool) → Says (not b) (b ≡ false)
says-false b = record { yes = not-true b; no = λ e p. clash (not-false b e) p }

-- a test that never passes says what never holds
pub says_never : Says false ⊥
says_never = record { yes = λ e. clash {b = false} e refl; no = λ e x. x }
