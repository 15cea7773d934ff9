use Rattle.std.proofs.Common.{◌≡◌, ℕ, ◌<◌, List, length, get_or, Some, refl, sym, ◌∙◌, ap, subst, ⊎_elim, arith}
use Rattle.std.specs.List.{slice_get, Contains}
use Rattle.std.proofs.lemmas.Bool.{cases_eq}
use Rattle.std.proofs.lemmas.Grind.{get_or-set_at}
use Rattle.std.proofs.lemmas.List.{get_or-set_other, length-set}
use Rattle.std.proofs.lemmas.List.Elements.{All-get_or, Contains-get_or}
use Rattle.std.proofs.lemmas.Option.{same_Some, slice_get_within, slice_get-get_or}
use Rattle.bt_recover.proofs.edges.write_places.Goals as goal

-- what stands at a place of the list
listed_at : (list : List ℕ) (j a : ℕ) → slice_get list j ≡ Some a → get_or list j 0 ≡ a
listed_at list j a is = same_Some (get_or list j 0) a (sym (slice_get-get_or list j 0 (slice_get_within list j a is)) ∙ is)

pub loop-k-init : goal.loop-k-init
loop-k-init c = record { count = refl; numbered = λ j a lt is. absurd (omega (arith, lt)); others = λ a none. refl }

pub loop-k-preserved : goal.loop-k-preserved
loop-k-preserved c =
    let list = c.args.list.now in
    let numbers = c.loop-k.numbers.items in
    let k = c.loop-k.k in
    let place = get_or list k 0 in
    let before = c.loop-k.invariant in
    let within : place < length numbers = omega (arith, before.count, All-get_or (λ i. i < length c.args.numbers.now.items) list k 0 c.loop-k-test.true c.requires.within) in
    record {
      count = length-set numbers place k ∙ before.count;
      numbered = λ j a lt is. ⊎_elim
          (λ same. get_or-set_at numbers place a k 0 (sym (listed_at list j a is) ∙ ap (λ m. get_or list m 0) same) within ∙ sym same)
          (λ apart. let earlier : j < k = omega (arith, lt, apart) in
          get_or-set_other numbers place a k 0 (λ e. c.requires.once j k 0 earlier c.loop-k-test.true (listed_at list j a is ∙ e)) ∙ before.numbered j a earlier is)
          (cases_eq j k);
      others = λ a none.
          get_or-set_other numbers place a k 0 (λ e. none k (omega arith) (slice_get-get_or list k 0 c.loop-k-test.true ∙ ap Some (sym e)))
          ∙ before.others a (λ j lt is. none j (omega (arith, lt)) is);
    }

pub returns-clause-numbered : goal.returns-clause-numbered
returns-clause-numbered c = λ k i is.
    c.loop-k.invariant.numbered k i (omega (arith, slice_get_within c.args.list.now k i is)) is

pub returns-clause-others : goal.returns-clause-others
returns-clause-others c = λ i none. c.loop-k.invariant.others i (λ j lt is.
    none (subst (λ a. Contains c.args.list.now a) (listed_at c.args.list.now j i is) (Contains-get_or c.args.list.now j 0 (slice_get_within c.args.list.now j i is))))
