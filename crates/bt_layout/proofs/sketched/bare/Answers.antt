use Rattle.std.proofs.Common.{◌≡◌, [], ◌∙◌, ap, append-nil, sym}
use Rattle.std.proofs.lemmas.Result.{IfOk-weaker}
use Rattle.bt_place.specs.Narrowed.{IsNarrowed}
use Rattle.bt_place.specs.PlaceFormula.{place_formula}
use Rattle.bt_layout.proofs.sketched.bare.Goals as goal

pub returns : goal.returns
returns c =
    let f = place_formula c.args.request.now in
    IfOk-weaker c.encode_place.result (λ formula. formula ≡ f) (IsNarrowed f)
    (λ formula is. ([], is ∙ ap (λ clauses. record f { clauses = clauses }) (sym (append-nil f.clauses)))) c.encode_place.ensures.formula
