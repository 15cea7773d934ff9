use Rattle.std.proofs.Common.{◌≡◌, ℕ, ◌<◌, ◌≤◌, List, ◌++◌, take, drop, length, ap, arith, ◌∙◌, refl, rules}
use Rattle.bt_arena.specs.Pieces.{pieces, AreEnds, start_of, written_over, with_list}
use Rattle.bt_arena.proofs.PoolPieces.{length-pieces}
use Rattle.bt_arena.proofs.Overwriting.{filled_over, overwritten}
use Rattle.bt_arena.proofs.pool.Pool.slice_mut.Goals as goal

pub span-from-requires-clause-place : goal.span-from-requires-clause-place
span-from-requires-clause-place g c =
    omega (arith, c.place.ensures, ap length c.deref-2.ensures.value, length-pieces 0 c.self.inside.ends.items c.self.inside.items.items, ap length c.self.view_is, c.requires)

-- what the pool is after the loan
lent : {T : Type 0} (ends : List ℕ) (items : List T) (size place at from end : ℕ) (lists : List (List T)) (others : List T) → AreEnds 0 ends items → pieces 0 ends items ≡ lists → at < length lists → place ≡ at
    → from ≡ start_of 0 ends place → from ≤ end → end ≤ length items → size ≡ length items
    → let now = take size ((take from items ++ (others ++ drop (length others) (drop from items))) ++ drop (length (take from items ++ (others ++ drop (length others) (drop from items)))) items) in
    AreEnds 0 ends now × (pieces 0 ends now ≡ with_list lists at others)
lent ends items size place at from end lists others are view below same begins order within counts =
    let inside : place < length ends = omega (arith, ap length view, length-pieces 0 ends items, below, same) in
    let short : from ≤ length items = omega (arith, order, within) in
    let now = take size ((take from items ++ (others ++ drop (length others) (drop from items))) ++ drop (length (take from items ++ (others ++ drop (length others) (drop from items)))) items) in
    let is : now ≡ written_over items from others =
    ap (λ n. take n ((take from items ++ (others ++ drop (length others) (drop from items))) ++ drop (length (take from items ++ (others ++ drop (length others) (drop from items)))) items)) counts
    ∙ filled_over items from others short in
    let done = overwritten ends items now place from others are inside begins is in
    (done.0, done.1 ∙ ap (λ xss. with_list xss place others) view ∙ ap (λ n. with_list lists n others) same)

pub invariant_of-self-lent : goal.invariant_of-self-lent
invariant_of-self-lent g c = λ w.
    let f = c.self.inside in
    (lent f.ends.items f.items.items f.items.len c.place.result c.args.id c.span-from.result.0 c.span-from.result.1 c.args.self.now w c.self.invariant c.self.view_is c.requires c.place.ensures
    (c.span-from.ensures.start ∙ ap (λ ends. start_of 0 ends c.place.result) c.deref-2.ensures.value)
    c.span-from.ensures.order (omega (arith, c.span-from.ensures.within, ap length c.deref.ensures.value)) f.items.ok.0).0

pub returns : goal.returns
returns g c =
    let f = c.self.inside in (
      (
        refl,
        λ w.
            (lent f.ends.items f.items.items f.items.len c.place.result c.args.id c.span-from.result.0 c.span-from.result.1 c.args.self.now w c.self.invariant c.self.view_is c.requires c.place.ensures
            (c.span-from.ensures.start ∙ ap (λ ends. start_of 0 ends c.place.result) c.deref-2.ensures.value)
            c.span-from.ensures.order (omega (arith, c.span-from.ensures.within, ap length c.deref.ensures.value)) f.items.ok.0).1,
      ),
      record { writes_back = tt; value = search rules },
    )
