use Rattle.std.proofs.Common.{◌≡◌, ◌∷◌, [], ◌++◌, OnOk, ap, ◌∙◌, sym, subst, refl}
use Rattle.bt_flow_formula.specs.Properties.{property_clauses, loaded_clauses, open_clauses, short_clauses, unequal_clause}
use Rattle.bt_flow_formula.specs.inner.Variables.{at_in}
use Rattle.bt_flow_formula.proofs.Numbers.{added_more, then_more}
use Rattle.bt_flow_formula.proofs.properties.add_property.Goals as goal

pub returns-in_ok-edges-in-Balanced : goal.returns-in_ok-edges-in-Balanced
returns-in_ok-edges-in-Balanced c =
    let n = c.args.net.now in
    let edges = c.deref.ensures.value ∙ c.in_ok-edges-in-Balanced.ensures.0 in
    let same = ap (λ l. open_clauses n ++ unequal_clause l ∷ []) edges ∙ ap (property_clauses n) (sym c.in-Balanced.is) in
    subst (λ f. OnOk c.add_unequal.result (c.add_unequal.new.formula ≡ f))
    (then_more (at_in c.args.pairs.now) c.args.formula.now c.add_open.new.formula (open_clauses n) (unequal_clause c.deref.result.now ∷ []) (property_clauses n c.args.property) c.in_ok-add_open-in-Balanced.ensures same)
    c.add_unequal.ensures

pub returns-in_ok-edges-in-DrawnEvenly : goal.returns-in_ok-edges-in-DrawnEvenly
returns-in_ok-edges-in-DrawnEvenly c =
    let n = c.args.net.now in
    let edges = c.deref-in-DrawnEvenly.ensures.value ∙ c.in_ok-edges-in-DrawnEvenly.ensures.0 in
    let same = ap (λ l. loaded_clauses n ++ unequal_clause l ∷ []) edges ∙ ap (property_clauses n) (sym c.in-DrawnEvenly.is) in
    subst (λ f. OnOk c.add_unequal-in-DrawnEvenly.result (c.add_unequal-in-DrawnEvenly.new.formula ≡ f))
    (then_more (at_in c.args.pairs.now) c.args.formula.now c.add_loaded.new.formula (loaded_clauses n) (unequal_clause c.deref-in-DrawnEvenly.result.now ∷ []) (property_clauses n c.args.property)
    c.in_ok-add_loaded-in-DrawnEvenly.ensures same)
    c.add_unequal-in-DrawnEvenly.ensures

pub returns-in_ok-add_open-in-Full : goal.returns-in_ok-add_open-in-Full
returns-in_ok-add_open-in-Full c =
    let n = c.args.net.now in
    let both = added_more (at_in c.args.pairs.now) c.args.formula.now c.add_loaded-in-Full.new.formula c.add_open-in-Full.new.formula (loaded_clauses n) (open_clauses n) _
    c.in_ok-add_loaded-in-Full.ensures c.in_ok-add_open-in-Full.ensures refl in
    subst (λ f. OnOk c.add_short-in-Full.result (c.add_short-in-Full.new.formula ≡ f))
    (then_more (at_in c.args.pairs.now) c.args.formula.now c.add_open-in-Full.new.formula (loaded_clauses n ++ open_clauses n) (short_clauses n) (property_clauses n c.args.property) both
    (ap (property_clauses n) (sym c.in-Full.is)))
    c.add_short-in-Full.ensures
