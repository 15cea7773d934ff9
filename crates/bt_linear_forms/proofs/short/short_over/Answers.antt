use Rattle.std.proofs.Common.{◌+◌, ◌≤◌, ◌++◌, ◌∷◌, [], arith, length, sym, ap, subst}
use Rattle.std.specs.List.{All}
use Rattle.std.proofs.lemmas.List.Elements.{All-nil}
use Rattle.bt_linear_forms.specs.Shorts.{terms_over, IsSmall, Divides}
use Rattle.bt_linear_forms.proofs.Shorts.{AreOver, are_over_more, are_over_all, over_short}
use Rattle.bt_linear_forms.proofs.short.short_over.Goals as goal

pub entry_over-requires-clause-divides : goal.entry_over-requires-clause-divides
entry_over-requires-clause-divides c =
    subst (λ t. Divides t.1.under c.args.under) (sym c.term-item.is) (c.requires.divides c.loop-term.term-index c.term-item.result c.loop-term-test.true)

pub loop-term-init : goal.loop-term-init
loop-term-init c = record { same = ap (λ l. terms_over c.args.under l) c.in_ok-numbers.ensures.items; small = subst (λ l. All (λ t. IsSmall t.1) l) (sym c.in_ok-numbers.ensures.items) (All-nil (λ t. IsSmall t.1)) }

pub loop-term-preserved : goal.loop-term-preserved
loop-term-preserved c =
    let entry = c.in-Some.entry in
    subst (λ l. AreOver c.args.under c.args.terms.now (c.loop-term.term-index + 1) l) (sym c.in_ok-push-in-Some.ensures.items)
    (subst (λ p. AreOver c.args.under c.args.terms.now (c.loop-term.term-index + 1) (c.loop-term.numbers.items ++ (p, entry.1) ∷ [])) (sym c.in-Some.ensures.position)
    (are_over_more c.args.under c.args.terms.now c.loop-term.term-index c.term-item.result c.loop-term.numbers.items entry.1 c.loop-term-test.true c.term-item.is
    c.in-Some.ensures.number c.in-Some.ensures.small c.loop-term.invariant))

pub invariant_of-result : goal.invariant_of-result
invariant_of-result c =
    let past : length c.args.terms.now ≤ c.loop-term.term-index = omega arith in
    over_short c.args.under c.args.terms.now c.loop-term.term-index c.loop-term.numbers.items c.requires.some c.requires.fits c.requires.line past c.loop-term.invariant

pub returns : goal.returns
returns c =
    let past : length c.args.terms.now ≤ c.loop-term.term-index = omega arith in
    are_over_all c.args.under c.args.terms.now c.loop-term.term-index c.loop-term.numbers.items past c.loop-term.invariant
