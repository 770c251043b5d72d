-- What the number of a refusal says of the test behind it, and how the numbers of checks make the number of a call. Assumes nothing.
use mathlib.Core.Path.{◌≡◌, refl, sym, ◌∙◌, ap}
use mathlib.Core.Bool.{Bool, true, false}
use mathlib.Core.List.{List, [], ◌∷◌}
use Prim.Native.Nat.{ℕ, zero, suc, ◌<◌}
use native.Mathlib.Omega.{arith}
use lib.Dec.{lit<}
use Rattle.refusals.specs.declared.Refusal.{Refusal}
use Rattle.refusals.specs.declared.Refusal.TheVariants.{Counts, Layout, PartLength, Field, Clash, Product, Ranking, Word, Work, NoCandidate, Answer, Candidate, NotComplete, Conditions, NoRanking, Parts, Target, Tableau, RowCandidate, RowCounts, Line, RowCount, Presence, Sets, Weights, Machines, JoinedSize}
use Rattle.std.proofs.Common.{Result, Ok, Err, true≢false}
use Rattle.std.proofs.lemmas.Bool.{false≢true}
use Rattle.std.specs.Result.{is_err}
use Rattle.refusals.specs.Refusals.{number_of, checked_number, refuse, first_of, unless_refused}

-- no refusal has the number 0
pub number_positive : (r : Refusal) → 0 < number_of r
number_positive Counts = lit< tt
number_positive Layout = lit< tt
number_positive PartLength = lit< tt
number_positive Field = lit< tt
number_positive Clash = lit< tt
number_positive Product = lit< tt
number_positive Ranking = lit< tt
number_positive Word = lit< tt
number_positive Work = lit< tt
number_positive NoCandidate = lit< tt
number_positive Answer = lit< tt
number_positive Candidate = lit< tt
number_positive NotComplete = lit< tt
number_positive Conditions = lit< tt
number_positive NoRanking = lit< tt
number_positive Parts = lit< tt
number_positive Target = lit< tt
number_positive Tableau = lit< tt
number_positive RowCandidate = lit< tt
number_positive RowCounts = lit< tt
number_positive Line = lit< tt
number_positive RowCount = lit< tt
number_positive Presence = lit< tt
number_positive Sets = lit< tt
number_positive Weights = lit< tt
number_positive Machines = lit< tt
number_positive JoinedSize = lit< tt

-- a test with refusal n, by its number
pub passed : (n : ℕ) (b : Bool) → 0 < n → refuse n b ≡ 0 → b ≡ true
passed n true h e = refl
passed n false h e = absurd (omega arith)

pub refused : (n : ℕ) (b : Bool) → 0 < refuse n b → b ≡ false
refused n true h = absurd (omega arith)
refused n false h = refl

pub passes_with : (n : ℕ) {b : Bool} → b ≡ true → refuse n b ≡ 0
passes_with n t = rw t

pub refuses_with : (n : ℕ) {b : Bool} → b ≡ false → refuse n b ≡ n
refuses_with n t = rw t

-- a call's answer, by its number
pub accepted : {A : Type 0} {n : ℕ} (a : A) (f : ℕ → A) → n ≡ 0 → unless_refused n a f ≡ a
accepted a f e = rw e

pub not_accepted : {A : Type 0} (n : ℕ) (a : A) (f : ℕ → A) → 0 < n → unless_refused n a f ≡ f n
not_accepted zero a f h = absurd (omega arith)
not_accepted (suc n) a f h = refl

-- the first refusal goes up; or there is none, and the later ones decide
pub first_up : (n : ℕ) (ns : List ℕ) → 0 < n → first_of (n ∷ ns) ≡ n
first_up zero ns h = absurd (omega arith)
first_up (suc n) ns h = refl

pub first_on : (n : ℕ) (ns : List ℕ) → n ≡ 0 → first_of (n ∷ ns) ≡ first_of ns
first_on zero ns e = refl
first_on (suc n) ns e = absurd (omega arith)

-- the first refusal is none where each is none
pub none_first : (n : ℕ) (ns : List ℕ) → first_of (n ∷ ns) ≡ 0 → (n ≡ 0) × (first_of ns ≡ 0)
none_first zero ns e = (refl, e)
none_first (suc n) ns e = absurd (omega arith)

pub last_one : (n : ℕ) → first_of (n ∷ []) ≡ n
last_one zero = refl
last_one (suc n) = refl

-- a check that passed
module _ {A : Type 0} {s : Result A Refusal} {a : A} (told : s ≡ Ok a) where
  pub passed_number : {n : ℕ} → checked_number s ≡ n → n ≡ 0
  passed_number e = sym e ∙ ap checked_number told

  pub was_true : (n : ℕ) (b : Bool) → 0 < n → checked_number s ≡ refuse n b → b ≡ true
  was_true n b h e = passed n b h (passed_number e)

  -- the later ones decide
  pub goes_on : (n : ℕ) (ns : List ℕ) → checked_number s ≡ n → first_of (n ∷ ns) ≡ first_of ns
  goes_on n ns e = first_on n ns (passed_number e)

  -- the call's answer where it decides for the whole call
  pub accepts : {B : Type 0} (n : ℕ) (b : B) (f : ℕ → B) → checked_number s ≡ n → unless_refused n b f ≡ b
  accepts n b f e = accepted b f (passed_number e)

-- a check that refused
module _ {A : Type 0} {s : Result A Refusal} {r : Refusal} (told : s ≡ Err r) where
  pub refused_number : {n : ℕ} → checked_number s ≡ n → 0 < n
  refused_number {n} e = let q : n ≡ number_of r = sym e ∙ ap checked_number told in omega (arith, number_positive r)

  pub was_false : (n : ℕ) (b : Bool) → checked_number s ≡ refuse n b → b ≡ false
  was_false n b e = refused n b (refused_number e)

  -- its refusal is the first, and goes up
  pub goes_up : (n : ℕ) (ns : List ℕ) → checked_number s ≡ n → checked_number s ≡ first_of (n ∷ ns)
  goes_up n ns e = e ∙ sym (first_up n ns (refused_number e))

  -- the call's answer where it decides for the whole call
  pub refuses : {B : Type 0} (n : ℕ) (b : B) (f : ℕ → B) → checked_number s ≡ n → unless_refused n b f ≡ f (number_of r)
  refuses n b f e = not_accepted n b f (refused_number e) ∙ ap f (sym e ∙ ap checked_number told)

-- what a test of an answer says of its number
pub err_number : {A : Type 0} (s : Result A Refusal) → is_err s ≡ true → 0 < checked_number s
err_number (Ok a) e = absurd (false≢true e)
err_number (Err r) e = number_positive r

pub ok_number : {A : Type 0} (s : Result A Refusal) → is_err s ≡ false → checked_number s ≡ 0
ok_number (Ok a) e = refl
ok_number (Err r) e = absurd (true≢false e)
