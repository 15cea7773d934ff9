-- What is left of a log that refutes a formula refutes it.
use Rattle.std.proofs.Common.{◌≡◌, ℕ, zero, suc, ◌+◌, ◌-◌, ◌<◌, ◌≤◌, inl, inr, arith, List, [], ◌∷◌, ◌++◌, length, map, take, refl, sym, subst, ap, ap₂, ◌∙◌, append-nil, append_assoc, length-append}
use Rattle.std.specs.Prelude.{All}
use Rattle.std.specs.List.{AllZip}
use Rattle.std.proofs.lemmas.List.{get_or_append_left, get_or-append-add, get_or_at, get_or-map, get_or-take, length-map, length-take-le, take_all, take_more}
use Rattle.std.proofs.lemmas.List.Elements.{All-cons, All-head, All-nil, All-tail}
use Rattle.bt_cnf.specs.Formulas.{FormulaParts}
use Rattle.bt_cnf.specs.Units.{clause_at}
use Rattle.bt_cnf.specs.declared.literal.Lit.{Lit}
use Rattle.bt_log.specs.Logs.{Step, Lemma, Learnt, LogParts, clause_of}
use Rattle.bt_log.specs.Refuting.{EndsEmpty}
use Rattle.bt_log.specs.Units.{UnitsRefute}
use Rattle.bt_log.specs.Validity.{AreValid, IsValidStep}
use Rattle.bt_log.specs.TrimmingLaws.{TrimmedIsShort, TrimmedRefutes}
use Rattle.bt_log.specs.Trimming.{IsMoved, IsRenamed, IsRenumbered, IsTrimmed, step_at}
use Rattle.bt_log.proofs.Left.{comes_before, count, is_short, last_left, left_at, lower, numbered, place_of, same_clause}

-- the clauses before the step at a place
abbrev pub before : List (List Lit) → List Step → ℕ → List (List Lit)
before clauses steps place = clauses ++ map clause_of (take place steps)

valid_at : (f : FormulaParts) (clauses : List (List Lit)) (steps : List Step) (place : ℕ) → AreValid f clauses steps → place < length steps
    → IsValidStep f (before clauses steps place) (step_at steps place)
valid_at f clauses [] place valid small = absurd (omega (arith, small))
valid_at f clauses (s ∷ steps) zero valid small = subst (λ cs. IsValidStep f cs s) (sym (append-nil clauses)) valid.0
valid_at f clauses (s ∷ steps) (suc place) valid small =
    subst (λ cs. IsValidStep f cs (step_at steps place)) (append_assoc clauses (clause_of s ∷ []) (map clause_of (take place steps)))
    (valid_at f (clauses ++ clause_of s ∷ []) steps place valid.1 (omega (arith, small)))

valid_from : (f : FormulaParts) (clauses : List (List Lit)) (steps : List Step)
    → ((place : ℕ) → place < length steps → IsValidStep f (before clauses steps place) (step_at steps place)) → AreValid f clauses steps
valid_from f clauses [] each = tt
valid_from f clauses (s ∷ steps) each = (
  subst (λ cs. IsValidStep f cs s) (append-nil clauses) (each 0 (omega arith)),
  valid_from f (clauses ++ clause_of s ∷ []) steps
      (λ place small. subst (λ cs. IsValidStep f cs (step_at steps place)) (sym (append_assoc clauses (clause_of s ∷ []) (map clause_of (take place steps))))
      (each (suc place) (omega (arith, small)))),
)

-- the clause of a step by its number
pub clause_before : (clauses : List (List Lit)) (steps : List Step) (place k : ℕ) → k < place → place ≤ length steps
    → clause_at (before clauses steps place) (length clauses + k) ≡ clause_of (step_at steps k)
clause_before clauses steps place k small within =
    let inside : k < length (take place steps) = omega (arith, small, length-take-le place steps within) in
    get_or-append-add clauses (map clause_of (take place steps)) k []
    ∙ get_or-map clause_of (take place steps) k (Lemma [] []) [] inside
    ∙ ap clause_of (get_or-take place steps k (Lemma [] []) small)

pub clauses_before : (clauses : List (List Lit)) (steps : List Step) (place : ℕ) → place ≤ length steps → length (before clauses steps place) ≡ length clauses + place
clauses_before clauses steps place within =
    length-append clauses (map clause_of (take place steps)) ∙ ap (λ n. length clauses + n) (length-map (take place steps) clause_of ∙ length-take-le place steps within)

-- the same of all hints
map_zip : {X : Type 0} (R : ℕ → ℕ → Type 0) (P : ℕ → Type 0) (g h : ℕ → X) → ((x y : ℕ) → R x y → P x → h y ≡ g x) → (xs ys : List ℕ) → AllZip R xs ys → All P xs → map h ys ≡ map g xs
map_zip R P g h same [] [] all each = refl
map_zip R P g h same [] (y ∷ ys) all each = absurd all
map_zip R P g h same (x ∷ xs) [] all each = absurd all
map_zip R P g h same (x ∷ xs) (y ∷ ys) all each =
    ap₂ (λ a rest. a ∷ rest) (same x y all.0 (All-head P x xs each)) (map_zip R P g h same xs ys all.1 (All-tail P x xs each))

all_zip : (R : ℕ → ℕ → Type 0) (P Q : ℕ → Type 0) → ((x y : ℕ) → R x y → P x → Q y) → (xs ys : List ℕ) → AllZip R xs ys → All P xs → All Q ys
all_zip R P Q goes [] [] all each = All-nil Q
all_zip R P Q goes [] (y ∷ ys) all each = absurd all
all_zip R P Q goes (x ∷ xs) [] all each = absurd all
all_zip R P Q goes (x ∷ xs) (y ∷ ys) all each =
    All-cons Q y ys (goes x y all.0 (All-head P x xs each)) (all_zip R P Q goes xs ys all.1 (All-tail P x xs each))

module _ (f : FormulaParts) (old new : LogParts) (trimmed : IsTrimmed old new) (over : old.first ≡ length f.clauses) where
  -- the clauses before a step in the old log, and in the new one
  abbrev before_old : ℕ → List (List Lit)
  before_old number = before f.clauses old.steps (place_of old new trimmed number)

  abbrev before_new : ℕ → List (List Lit)
  before_new number = before f.clauses new.steps number

  -- a hint that is moved
  moved_to : (number hint again : ℕ) → number < length new.steps → IsMoved old.first trimmed.kept (place_of old new trimmed number) hint again
      → (k : ℕ) × (k < number) × (hint ≡ length f.clauses + place_of old new trimmed k) × (again ≡ length f.clauses + k)
  moved_to number hint again small moved = (
    moved.number,
    lower trimmed.kept moved.number number trimmed.in_order moved.left moved.earlier,
    subst (λ n. hint ≡ n + place_of old new trimmed moved.number) over moved.named,
    subst (λ n. again ≡ n + moved.number) over moved.moved,
  )

  same_hint : (number : ℕ) → number < length new.steps → (hint again : ℕ) → IsRenamed old.first trimmed.kept (place_of old new trimmed number) hint again
      → hint < length (before_old number) → clause_at (before_new number) again ≡ clause_at (before_old number) hint
  same_hint number small hint again is within =
      let inside = (left_at old new trimmed number small).inside in
      let place = place_of old new trimmed number in
      elim is [
        | inl moved ↦
            let (k, less, named, named_again) = moved_to number hint again small moved in
            let k_small : k < length new.steps = omega (arith, less, small) in
            ap (clause_at (before_new number)) named_again ∙ clause_before f.clauses new.steps number k less (omega (arith, small)) ∙ same_clause old new trimmed k k_small
            ∙ sym (ap (clause_at (before_old number)) named
            ∙ clause_before f.clauses old.steps place (place_of old new trimmed k) (comes_before old new trimmed k number less small) (omega (arith, inside)))
        | inr stays ↦ elim stays.outside [
          | inl low ↦
              let below : hint < length f.clauses = subst (λ n. hint < n) over low in
              ap (clause_at (before_new number)) stays.same ∙ get_or_append_left f.clauses (map clause_of (take number new.steps)) [] hint below
              ∙ sym (get_or_append_left f.clauses (map clause_of (take place old.steps)) [] hint below)
          | inr past ↦ absurd (omega (arith, past, within, over, clauses_before f.clauses old.steps place (omega (arith, inside))))
        ]
      ]

  hint_inside : (number : ℕ) → number < length new.steps → (hint again : ℕ) → IsRenamed old.first trimmed.kept (place_of old new trimmed number) hint again
      → hint < length (before_old number) → again < length (before_new number)
  hint_inside number small hint again is within =
      let inside = (left_at old new trimmed number small).inside in
      let size = clauses_before f.clauses new.steps number (omega (arith, small)) in
      elim is [
        | inl moved ↦ let (k, less, named, named_again) = moved_to number hint again small moved in omega (arith, less, named_again, size)
        | inr stays ↦ elim stays.outside [
          | inl low ↦ omega (arith, low, stays.same, size, over)
          | inr past ↦ absurd (omega (arith, past, within, over, clauses_before f.clauses old.steps (place_of old new trimmed number) (omega (arith, inside))))
        ]
      ]

  valid_again : (number : ℕ) → number < length new.steps → (s t : Step) → IsRenumbered old.first trimmed.kept (place_of old new trimmed number) s t → IsValidStep f (before_old number) s
      → IsValidStep f (before_new number) t
  valid_again number small (Lemma lits weights) t is valid = subst (IsValidStep f (before_new number)) (sym is) valid
  valid_again number small (Learnt lits hints) t (again, is, zipped) valid =
      let R = IsRenamed old.first trimmed.kept (place_of old new trimmed number) in
      let Inside : ℕ → Type 0 = λ hint. hint < length (before_old number) in
      subst (IsValidStep f (before_new number)) (sym is)
      (record {
        variables = valid.variables;
        signs = valid.signs;
        numbers = all_zip R Inside (λ hint. hint < length (before_new number)) (hint_inside number small) hints again zipped valid.numbers;
        units =
            subst (UnitsRefute lits) (sym (map_zip R Inside (clause_at (before_old number)) (clause_at (before_new number)) (same_hint number small) hints again zipped valid.numbers)) valid.units;
      })

  pub trimmed_valid : AreValid f f.clauses old.steps → AreValid f f.clauses new.steps
  trimmed_valid valid =
      valid_from f f.clauses new.steps
      (λ number small.
      let left = left_at old new trimmed number small in
      valid_again number small (step_at old.steps (place_of old new trimmed number)) (step_at new.steps number) left.renumbered
      (valid_at f f.clauses old.steps (place_of old new trimmed number) valid left.inside))

pub trimmed_ends : (old new : LogParts) → IsTrimmed old new → EndsEmpty old.steps → EndsEmpty new.steps
trimmed_ends old new trimmed ends =
    let size : length old.steps ≡ length ends.front + 1 = ap length ends.split ∙ length-append ends.front (ends.last ∷ []) in
    let (number, inside, at) = numbered trimmed.kept (length old.steps - 1) (trimmed.last (omega (arith, size))) in
    let small : number < length new.steps = omega (arith, inside, count old new trimmed) in
    let end : number + 1 ≡ length new.steps = last_left old new trimmed number small (omega (arith, at, size)) in
    let there : step_at old.steps (place_of old new trimmed number) ≡ ends.last =
    ap (step_at old.steps) (at ∙ omega (arith, size)) ∙ ap (λ steps. step_at steps (length ends.front)) ends.split ∙ get_or_at ends.front ends.last [] (Lemma [] []) (length ends.front) refl in
    record {
      front = take number new.steps;
      last = step_at new.steps number;
      split = sym (take_all (number + 1) new.steps (omega (arith, end))) ∙ take_more new.steps number (Lemma [] []) small;
      empty = same_clause old new trimmed number small ∙ ap clause_of there ∙ ends.empty;
    }

pub trimmed_refutes : TrimmedRefutes
trimmed_refutes f old new trimmed over refutes = record { valid = trimmed_valid f old new trimmed over refutes.valid; ends = trimmed_ends old new trimmed refutes.ends }

pub trimmed_is_short : TrimmedIsShort
trimmed_is_short old new trimmed = is_short old new trimmed
