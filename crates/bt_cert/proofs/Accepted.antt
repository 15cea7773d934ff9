-- Steps that are valid in their turn, and the clause of the last.
use Rattle.std.proofs.Common.{◌≡◌, List, [], ◌∷◌, ◌++◌, map, length, sym, ◌∙◌, ap, subst, arith, append_assoc, append-nil, length-append}
use Rattle.std.specs.List.{All}
use Rattle.std.proofs.lemmas.List.{map_push}
use Rattle.std.proofs.lemmas.List.Elements.{All-head, All-tail, All-nil, All-cons, All-push}
use Rattle.bt_cnf.specs.Formulas.{FormulaParts}
use Rattle.bt_cnf.specs.declared.literal.Lit.{Lit}
use Rattle.bt_log.specs.Logs.{clause_of}
use Rattle.bt_log.specs.Refuting.{EndsEmpty}
use Rattle.bt_log.specs.Validity.{AreValid}
use Rattle.bt_cert.specs.StepLines.{WrittenStep, IsWritten, step_of, written_clause}
use Rattle.bt_cert.specs.Judging.{IsAccepted, IsWideNowhere}
use Rattle.bt_cert.specs.Certificates.{AreAccepted, AreRight, clauses_after, log_of}

-- one more step
accepted_push : (f : FormulaParts) (clauses : List (List Lit)) (steps : List WrittenStep) (step : WrittenStep) → AreAccepted f clauses steps
    → IsAccepted f (clauses ++ map written_clause steps) step → AreAccepted f clauses (steps ++ step ∷ [])
accepted_push f clauses [] step h k = (subst (λ c. IsAccepted f c step) (append-nil clauses) k, tt)
accepted_push f clauses (s ∷ steps) step h k = (
  h.0,
  accepted_push f (clauses ++ written_clause s ∷ []) steps step h.1
      (subst (λ c. IsAccepted f c step) (sym (append_assoc clauses (written_clause s ∷ []) (map written_clause steps))) k),
)

-- a step among them
pub accepted_at : (f : FormulaParts) (clauses : List (List Lit)) (front : List WrittenStep) (step : WrittenStep) (rest : List WrittenStep)
    → AreAccepted f clauses (front ++ step ∷ rest) → IsAccepted f (clauses ++ map written_clause front) step
accepted_at f clauses [] step rest h = subst (λ c. IsAccepted f c step) (sym (append-nil clauses)) h.0
accepted_at f clauses (s ∷ front) step rest h =
    subst (λ c. IsAccepted f c step) (append_assoc clauses (written_clause s ∷ []) (map written_clause front))
    (accepted_at f (clauses ++ written_clause s ∷ []) front step rest h.1)

pub valid_of : (f : FormulaParts) (clauses : List (List Lit)) (steps : List WrittenStep) → AreAccepted f clauses steps → AreValid f clauses (log_of steps)
valid_of f clauses [] h = tt
valid_of f clauses (s ∷ steps) h = (h.0.0, valid_of f (clauses ++ written_clause s ∷ []) steps h.1)

pub fit_of : (f : FormulaParts) (clauses : List (List Lit)) (steps : List WrittenStep) → AreAccepted f clauses steps → All (IsWideNowhere f) steps
fit_of f clauses [] h = All-nil (IsWideNowhere f)
fit_of f clauses (s ∷ steps) h = All-cons (IsWideNowhere f) s steps h.0.1 (fit_of f (clauses ++ written_clause s ∷ []) steps h.1)

pub accepted_of : (f : FormulaParts) (clauses : List (List Lit)) (steps : List WrittenStep) → AreValid f clauses (log_of steps) → All (IsWideNowhere f) steps
    → AreAccepted f clauses steps
accepted_of f clauses [] h k = tt
accepted_of f clauses (s ∷ steps) h k =
    ((h.0, All-head (IsWideNowhere f) s steps k), accepted_of f (clauses ++ written_clause s ∷ []) steps h.1 (All-tail (IsWideNowhere f) s steps k))

-- the last items of two equal lists are equal
last_same : {A : Type 0} (xs ys : List A) (x y : A) → xs ++ x ∷ [] ≡ ys ++ y ∷ [] → x ≡ y
last_same [] [] x y e = cc
last_same [] (z ∷ ys) x y e =
    let longer : length (x ∷ []) ≡ length (z ∷ (ys ++ y ∷ [])) = ap length e in
    absurd (omega (arith, longer, length-append ys (y ∷ [])))
last_same (z ∷ xs) [] x y e =
    let longer : length (z ∷ (xs ++ x ∷ [])) ≡ length (y ∷ []) = ap length e in
    absurd (omega (arith, longer, length-append xs (x ∷ [])))
last_same (w ∷ xs) (z ∷ ys) x y e = let tails : xs ++ x ∷ [] ≡ ys ++ y ∷ [] = cc in last_same xs ys x y tails

pub ends_with : (steps : List WrittenStep) (step : WrittenStep) → written_clause step ≡ [] → EndsEmpty (log_of (steps ++ step ∷ []))
ends_with steps step none = record { front = log_of steps; last = step_of step; split = map_push step_of steps step; empty = none }

pub last_is_empty : (steps : List WrittenStep) (step : WrittenStep) → EndsEmpty (log_of (steps ++ step ∷ [])) → written_clause step ≡ []
last_is_empty steps step h =
    let same : step_of step ≡ h.last = last_same (log_of steps) h.front (step_of step) h.last (sym (map_push step_of steps step) ∙ h.split) in
    ap clause_of same ∙ h.empty

pub none_ends : EndsEmpty (log_of []) → ⊥
none_ends h =
    let longer : length (log_of []) ≡ length (h.front ++ h.last ∷ []) = ap length h.split in
    omega (arith, longer, length-append h.front (h.last ∷ []))

-- right steps, and one more
pub right_push : (f : FormulaParts) (steps : List WrittenStep) (step : WrittenStep) → AreRight f steps → IsWritten step → IsAccepted f (clauses_after f steps) step
    → AreRight f (steps ++ step ∷ [])
right_push f steps step h written accepted = record {
  written = All-push IsWritten steps step h.written written;
  accepted = accepted_push f f.clauses steps step h.accepted accepted;
}

pub clauses_push : (f : FormulaParts) (steps : List WrittenStep) (step : WrittenStep) → clauses_after f steps ++ written_clause step ∷ [] ≡ clauses_after f (steps ++ step ∷ [])
clauses_push f steps step =
    append_assoc f.clauses (map written_clause steps) (written_clause step ∷ []) ∙ ap (λ c. f.clauses ++ c) (sym (map_push written_clause steps step))
