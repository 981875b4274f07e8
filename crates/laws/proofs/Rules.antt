-- A definition is a chain of `cond`; the code has the same tests in the same order. `search` with one of these sets closes an exit of the code.
-- Assumes nothing.
use mathlib.Core.Path.{◌≡◌, refl, sym, ◌∙◌}
use mathlib.Core.Bool.{Bool, true, false, cond, ◌&&◌, ◌||◌, or-true}
use Rattle.std.proofs.lemmas.Bool.{cond_both}
use borrow.Author.Tests.{eq-eqb, ne_eqb, lt-ltb, le-ltb, le-leb, lt-leb}

-- a test on numbers, as the code makes it
pub ruleset tests = (eq-eqb, ne_eqb, lt-ltb, le-ltb, le-leb, lt-leb)

-- a call that answered r, which its contract says is t: what the test of r says of t
pub said : (r t b : Bool) → r ≡ t → r ≡ b → t ≡ b
said r t b e n = sym e ∙ n

-- its two cases, for `search`
pub denied : (r t : Bool) → r ≡ t → r ≡ false → t ≡ false
denied r t = said r t false

pub granted : (r t : Bool) → r ≡ t → r ≡ true → t ≡ true
granted r t = said r t true

-- an answer that a test picks
pub pick_yes : {A : Type 0} (b : Bool) (x t e : A) → b ≡ true → x ≡ t → x ≡ cond b t e
pick_yes b x t e p q = rw p q

pub pick_no : {A : Type 0} (b : Bool) (x t e : A) → b ≡ false → x ≡ e → x ≡ cond b t e
pick_no b x t e p q = rw p q

pub ruleset picks = (pick_yes, pick_no, denied, granted, said, tests)

-- an answer that is a row of tests, `every` of a list
pub and_stops : (a b : Bool) → a ≡ false → false ≡ (a && b)
and_stops a b e = rw e refl

pub and_goes : (a b x : Bool) → a ≡ true → x ≡ b → x ≡ (a && b)
and_goes a b x e f = rw e f

pub and_last : (a x : Bool) → x ≡ a → x ≡ (a && true)
and_last true x e = e
and_last false x e = e

pub or_stops : (a b : Bool) → a ≡ true → true ≡ (a || b)
or_stops a b e = rw e refl

pub or_goes : (a b x : Bool) → a ≡ false → x ≡ b → x ≡ (a || b)
or_goes a b x e f = rw e f

-- the same where the second is known
pub or_true : (a : Bool) → (a || true) ≡ true
or_true = or-true

pub ruleset gates = (and_stops, and_goes, and_last, or_stops, or_goes, denied, granted, tests)

-- what holds of both answers holds of the one picked; each may use how the test came out
pub picked_by : {A : Type 0} (P : A → Type 0) (b : Bool) {x y : A} → (b ≡ true → P x) → (b ≡ false → P y) → P (cond b x y)
picked_by P b = cond_both b _ _ P

pub picked : {A : Type 0} (P : A → Type 0) (b : Bool) {x y : A} → P x → P y → P (cond b x y)
picked P b p q = picked_by P b (λ _. p) (λ _. q)

-- the two ways that a test comes out
pub by_test : {P : Type 0} (b : Bool) → (b ≡ true → P) → (b ≡ false → P) → P
by_test true p q = p refl
by_test false p q = q refl
