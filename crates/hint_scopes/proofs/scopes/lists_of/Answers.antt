use Rattle.std.proofs.Common.{◌≡◌, ℕ, ◌<◌, List, Vec, Global, length, refl, sym, ap, ◌∙◌, subst, arith}
use Rattle.std.specs.List.{All}
use Rattle.std.specs.Vec.{with_items}
use Rattle.std.proofs.lemmas.List.{with_items_is}
use Rattle.hint_graphs.specs.Places.{AreBelow}
use Rattle.hint_scopes.proofs.scopes.lists_of.Goals as goal
use Rattle.hint_scopes.proofs.scopes.lists_of.Goals.{then-ne+in_ok-add-2, else-ne}

abbrev AllBelow : ℕ → List (Vec ℕ Global) → Type 0
AllBelow end lists = All (λ (list : Vec ℕ Global). AreBelow end list.items) lists

-- what holds of the lists that were lent holds of the vector that they were lent from
given_back : (end : ℕ) (v now : Vec (Vec ℕ Global) Global) (lent new : List (Vec ℕ Global)) → now ≡ with_items v new → length new ≡ length lent → length lent ≡ v.len → lent ≡ v.items
    → (AllBelow end lent → AllBelow end new) → AllBelow end v.items → AllBelow end now.items
given_back end v now lent new is long len same step h =
    subst (AllBelow end) (sym (ap (λ (x : Vec (Vec ℕ Global) Global). x.items) is ∙ with_items_is v new (long ∙ len))) (step (subst (AllBelow end) (sym same) h))

pub loop-place-preserved : goal.loop-place-preserved
loop-place-preserved c =
    let end = length c.args.rows.now in
    let l : c.loop-place.place < end = omega arith in
    let v = c.loop-place.lists in
    let v1 = with_items v c.add.new.lists in
    let first = given_back end v v1 c.deref_mut.result.now c.add.new.lists refl c.add.auto.lists c.deref_mut.ensures.len c.deref_mut.ensures.value (λ h. c.in_ok-add.ensures end h l) c.loop-place.invariant in
    elim c.if-ne.branch [
      | then-ne+in_ok-add-2 w ↦
          given_back end v1 c.if-ne.lists w.deref_mut-then-ne.result.now w.add-then-ne.new.lists w.lists-is w.add-then-ne.auto.lists w.deref_mut-then-ne.ensures.len w.deref_mut-then-ne.ensures.value
          (λ h. w.in_ok-add-2.ensures end h l) first
      | else-ne w ↦ subst (λ (x : Vec (Vec ℕ Global) Global). AllBelow end x.items) (sym w.lists-is) first
    ]
