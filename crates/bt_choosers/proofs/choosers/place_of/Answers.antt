use Rattle.std.proofs.Common.{◌≡◌, ◌<◌, ◌≤◌, ℕ, length, ltb, ltb-true, arith, rules, get_or, eqb, Bool, true, false, ◌&&◌, inl, inr, sym, ap, ◌∙◌}
use Rattle.std.proofs.lemmas.Bool.{false≢true, ltb-false}
use Rattle.std.proofs.lemmas.Bool.Decides.{eqb_tells}
use Rattle.std.proofs.lemmas.List.{get_or_default}
use Rattle.std.proofs.lemmas.List.Sorted.{IsPartitionPoint-from_clause, IsPartitionedBy-ltb}
use Rattle.bt_choosers.proofs.Ascending.{not_among, up_to}
use Rattle.bt_choosers.proofs.choosers.place_of.Goals.{else-place-unset-via-then-place-unset+else-eq, else-place-unset-via-else-place-unset}
use Rattle.bt_choosers.proofs.choosers.place_of.Goals as goal

differ : (a b : ℕ) (told : Bool) → a ≡ b → told ≡ (eqb a b && true) → told ≡ false → ⊥
differ a b told same is not =
    elim (eqb_tells a b) [ inl t ↦ false≢true (sym not ∙ is ∙ ap (λ r. r && true) t.0) | inr t ↦ t.1 same ]

pub returns-clause-none : goal.returns-clause-none
returns-clause-none c =
    let unset = c.args.unset.now in
    let var = c.args.var in
    let place = c.partition_point-place.result in
    let parted = IsPartitionedBy-ltb (λ (n : ℕ). n) unset var (λ i j d before below. up_to unset i j d d c.requires before below) in
    let point = IsPartitionPoint-from_clause (λ (n : ℕ). ltb n var) unset place c.partition_point-place.ensures.partitioned parted (λ a r q k. search rules) in
    let before : (k d : ℕ) → k < place → k < length unset → get_or unset k d < var = λ k d small below. ltb-true _ _ (point.0 k d (omega arith) small) in
    let after : (k d : ℕ) → place ≤ k → k < length unset → var ≤ get_or unset k d = λ k d late below. ltb-false _ _ (point.1 k d late below) in
    elim c.else-place-unset.branch [
      | else-place-unset-via-then-place-unset+else-eq w ↦ not_among unset var place c.requires before after (λ inside same.
          let item = w.index-unset-place.result in
          let is : item ≡ var = w.index-unset-place.is ∙ get_or_default unset place item var inside ∙ same in
          differ item var w.eq.result is w.eq.ensures w.if-eq.false)
      | else-place-unset-via-else-place-unset w ↦ not_among unset var place c.requires before after (λ inside. absurd (omega (arith, w.if-place-unset.false)))
    ]
