use Rattle.std.proofs.Common.{◌≡◌, ◌↔◌, ℕ, Some, Err, length, subst, ap, arith, inl}
use Rattle.std.proofs.lemmas.Bool.{iff_false}
use Rattle.bt_parts.specs.Layouts.{ArePaired}
use Rattle.bt_recover.specs.declared.pairing.PairFault.TheVariants.{Unpaired}
use Rattle.bt_recover.specs.inner.Partners.{HasPartners}
use Rattle.bt_recover.proofs.PartnerLemmas.{more_partners, all_partners, first_unpaired, read_part, not_alone}
use Rattle.bt_recover.proofs.OneAnswer.{paired_answers}
use Rattle.bt_recover.proofs.pairing.pairs.Goals as goal

pub returns-then-is_alone : goal.returns-then-is_alone
returns-then-is_alone c =
    let alone = c.is_alone.ensures.0 c.if-is_alone.true in
    paired_answers c.args.grid.now (Err (Unpaired c.loop-i.i))
    (inl (first_unpaired c.args.grid.now c.loop-i.partners.items c.loop-i.i _ c.loop-i.invariant
    (read_part c.args.grid.now c.parts-parts.result.now c.loop-i.i _ c.parts-parts.ensures.value c.loop-i-test.true)
    alone.1
    (subst (λ o. (j : ℕ) → (o ≡ Some j) ↔ ArePaired c.args.grid.now c.loop-i.i j) alone.0 c.other_end-partner.ensures)))

pub loop-i-preserved : goal.loop-i-preserved
loop-i-preserved c =
    rw (rw (c.is_err.ensures.negation, c.if-is_err.false) at c.push.ensures.items)
    (more_partners c.args.grid.now c.loop-i.partners.items c.loop-i.i c.other_end-partner.result c.loop-i.invariant c.other_end-partner.ensures
    (not_alone c.args.grid.now c.loop-i.i _ c.other_end-partner.result
    (read_part c.args.grid.now c.parts-parts.result.now c.loop-i.i _ c.parts-parts.ensures.value c.loop-i-test.true)
    (iff_false c.is_alone.ensures c.if-is_alone.false)))

pub returns : goal.returns
returns c =
    let same : c.loop-i.i ≡ length c.args.grid.now = omega (arith, ap length c.parts-parts.ensures.value) in
    paired_answers c.args.grid.now _
    (rw c.new.ensures (all_partners c.args.grid.now c.loop-i.partners.items
    (subst (λ n. HasPartners c.args.grid.now c.loop-i.partners.items n) same c.loop-i.invariant)))
