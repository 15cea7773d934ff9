-- Clauses that are added to a formula.
use Rattle.std.proofs.Common.{[], ◌++◌, sym, ◌∙◌, ap, append_assoc, append-nil}
use Rattle.bt_cnf.specs.Formulas.{FormulaParts}
use Rattle.bt_place.specs.Narrowed.{IsNarrowed}

pub narrowed_none : (f : FormulaParts) → IsNarrowed f f
narrowed_none f = ([], ap (λ l. record f { clauses = l }) (sym (append-nil f.clauses)))

pub narrowed_more : (f g h : FormulaParts) → IsNarrowed f g → IsNarrowed g h → IsNarrowed f h
narrowed_more f g h one two =
    (one.0 ++ two.0, two.1 ∙ ap (λ (k : FormulaParts). record k { clauses = k.clauses ++ two.0 }) one.1 ∙ ap (λ l. record f { clauses = l }) (append_assoc f.clauses one.0 two.0))
