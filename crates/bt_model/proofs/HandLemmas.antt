-- One part hands to one other, and what that means of the two parts.
use Rattle.std.proofs.Common.{◌≡◌, ◌≢◌, ◌⊎◌, ◌↔◌, ℕ, ◌<◌, List, length, Option, Some, None, Bool, false, IsTrue, refl, sym, ◌∙◌, subst, inl, inr, ⊎_elim}
use Rattle.std.specs.Option.{IfSome}
use Rattle.std.proofs.lemmas.Option.{same_Some, none-some, slice_get_within}
use Rattle.std.proofs.lemmas.Bool.{false≢true}
use Rattle.bt_parts.specs.declared.part.Cell.{Cell}
use Rattle.bt_parts.specs.declared.part.Kind.{Kind}
use Rattle.bt_parts.specs.declared.part.Kind.TheVariants.{Belt, Entrance, Exit, Splitter}
use Rattle.bt_parts.specs.declared.part.Part.{Part}
use Rattle.bt_parts.specs.Cells.{IsGreaterHalf, step}
use Rattle.bt_parts.specs.Layouts.{HasPart, IsAt, IsWellPlaced, Pairs, ArePaired}
use Rattle.bt_parts.specs.inner.Looking.{IsFirstPiece}
use Rattle.bt_parts.proofs.Pieces.{one_first, ahead_first}
use Rattle.bt_model.specs.Handing.{FeedsPart, FeedsFrom, Feeds, Hands}
use Rattle.bt_model.specs.Chains.{IsLink}
use Rattle.bt_parts.proofs.Places.{same_part, own_cell, one_there, covers_at}

pub feeds_part : (parts : List Part) (p q : ℕ) (giver taker : Part) (half : Cell) → HasPart parts p giver → HasPart parts q taker
    → FeedsFrom parts p half q → FeedsPart giver half taker
feeds_part parts p q giver taker half is_p is_q feeds =
    let look = feeds.look in
    subst (λ g. FeedsPart g half taker) (same_part parts p look.giver.part giver look.giver.is_i is_p)
    (subst (λ t. FeedsPart look.giver.part half t) (same_part parts q look.taker.part taker look.taker.is_i is_q)
    (record {
      no_entrance = look.no_entrance;
      covers = look.giver.covers;
      faces = look.taker.covers;
      side = feeds.side;
      comes = look.comes;
      takes = feeds.takes;
    }))

pub feeds_from : (parts : List Part) (p q : ℕ) (giver taker : Part) (half : Cell) → HasPart parts p giver → HasPart parts q taker
    → FeedsPart giver half taker → FeedsFrom parts p half q
feeds_from parts p q giver taker half is_p is_q feeds = record {
  side = feeds.side;
  look = record {
    giver = record { part = giver; is_i = is_p; covers = feeds.covers };
    no_entrance = feeds.no_entrance;
    taker = record { part = taker; is_i = is_q; covers = feeds.faces };
    comes = feeds.comes;
  };
  takes = feeds.takes;
}

-- a part feeds from its own cell or from the greater half
feeds_halves : (parts : List Part) (p q : ℕ) (giver taker : Part) → HasPart parts p giver → HasPart parts q taker
    → Feeds parts p q → FeedsPart giver giver.cell taker ⊎ ((half : Cell) × IsGreaterHalf giver half × FeedsPart giver half taker)
feeds_halves parts p q giver taker is_p is_q feeds =
    let there = feeds_part parts p q giver taker feeds.0 is_p is_q feeds.1 in
    ⊎_elim (λ own. inl (subst (λ half. FeedsPart giver half taker) own there)) (λ greater. inr (feeds.0, greater, there)) there.covers

pub feeds_second : (parts : List Part) (p q : ℕ) (giver taker : Part) (first : Cell) (second : Option Cell) (half : Cell) (b : Bool)
    → HasPart parts p giver → HasPart parts q taker → first ≡ giver.cell
    → ((c : Cell) → (second ≡ Some c) ↔ IsGreaterHalf giver c) → second ≡ Some half → (FeedsPart giver first taker → ⊥)
    → (IsTrue b ↔ FeedsPart giver half taker) → IsTrue b ↔ Feeds parts p q
feeds_second parts p q giver taker first second half b is_p is_q e is_second some none tells = (
  λ t. (half, feeds_from parts p q giver taker half is_p is_q (tells.0 t)),
  λ feeds. ⊎_elim (λ own. absurd (none (subst (λ c. FeedsPart giver c taker) (sym e) own)))
      (λ greater. tells.1 (subst (λ c. FeedsPart giver c taker) (same_Some greater.0 half (sym ((is_second greater.0).1 greater.1) ∙ some)) greater.2))
      (feeds_halves parts p q giver taker is_p is_q feeds),
)

pub feeds_never : (parts : List Part) (p q : ℕ) (giver taker : Part) (first : Cell) (second : Option Cell)
    → HasPart parts p giver → HasPart parts q taker → first ≡ giver.cell
    → ((c : Cell) → (second ≡ Some c) ↔ IsGreaterHalf giver c) → second ≡ None → (FeedsPart giver first taker → ⊥)
    → IsTrue false ↔ Feeds parts p q
feeds_never parts p q giver taker first second is_p is_q e is_second none_there none = (
  λ t. absurd (false≢true t),
  λ feeds. ⊎_elim (λ own. absurd (none (subst (λ c. FeedsPart giver c taker) (sym e) own)))
      (λ greater. absurd (none-some greater.0 (sym none_there ∙ (is_second greater.0).1 greater.1)))
      (feeds_halves parts p q giver taker is_p is_q feeds),
)

-- an entrance is in a pair only as its entrance
pub entrance_paired : (parts : List Part) (a b : ℕ) (entrance : Part) → HasPart parts a entrance → entrance.kind ≡ Entrance → ArePaired parts a b → Pairs parts a b
entrance_paired parts a b entrance is_a enters (inl pair) = pair
entrance_paired parts a b entrance is_a enters (inr pair) =
    absurd (let e = enters in let k = pair.leaves in let same = same_part parts a pair.exit entrance pair.is_b is_a in cc)

-- so the other end of its pair is its exit
pub exit_found : (parts : List Part) (a : ℕ) (entrance : Part) (exit : Option ℕ) → HasPart parts a entrance → entrance.kind ≡ Entrance
    → ((b : ℕ) → (exit ≡ Some b) ↔ ArePaired parts a b) → (b : ℕ) → (exit ≡ Some b) ↔ Pairs parts a b
exit_found parts a entrance exit is_a enters paired b =
    (λ e. entrance_paired parts a b entrance is_a enters ((paired b).0 e), λ pair. (paired b).1 (inl pair))

pub exit_of_none : (parts : List Part) (a : ℕ) (part : Part) → HasPart parts a part → (part.kind ≡ Entrance → ⊥) → (j : ℕ) → (None ≡ Some j) ↔ Pairs parts a j
exit_of_none parts a part is_a none j = (
  λ e. absurd (none-some j e),
  λ p. absurd (none (subst (λ q. q.kind ≡ Entrance) (same_part parts a p.entrance part p.is_a is_a) p.enters)),
)

pub exit_within : (parts : List Part) (a : ℕ) (exit : Option ℕ) → ((b : ℕ) → (exit ≡ Some b) ↔ ArePaired parts a b) → IfSome exit (λ b. b < length parts)
exit_within parts a None paired = tt
exit_within parts a (Some b) paired =
    ⊎_elim (λ pair. slice_get_within parts b pair.exit pair.is_b) (λ pair. slice_get_within parts b pair.entrance pair.is_a) ((paired b).0 refl)

-- an entrance has one exit
one_exit : (parts : List Part) → IsWellPlaced parts → (a b c : ℕ) → Pairs parts a b → Pairs parts a c → b ≡ c
one_exit parts placed a b c p q =
    one_first parts q.entrance q.entrance.dir placed b c
    (subst (λ e. IsFirstPiece parts e e.dir b) (same_part parts a p.entrance q.entrance p.is_a q.is_a) (ahead_first parts a b p))
    (ahead_first parts a c q)

-- what a belt, an exit or a splitter hands to, it feeds
pub hands_feeds : (parts : List Part) (p q : ℕ) (giver : Part) → HasPart parts p giver → giver.kind ≢ Entrance → Hands parts p q → Feeds parts p q
hands_feeds parts p q giver is_p above (inl pair) =
    absurd (above (subst (λ g. g.kind ≡ Entrance) (same_part parts p pair.entrance giver pair.is_a is_p) pair.enters))
hands_feeds parts p q giver is_p above (inr feeds) = feeds

-- what an entrance hands to is the exit of its pair
pub hands_pairs : (parts : List Part) (p q : ℕ) (giver : Part) → HasPart parts p giver → giver.kind ≡ Entrance → Hands parts p q → Pairs parts p q
hands_pairs parts p q giver is_p enters (inl pair) = pair
hands_pairs parts p q giver is_p enters (inr feeds) =
    let look = feeds.1.look in
    absurd (look.no_entrance (subst (λ g. g.kind ≡ Entrance) (same_part parts p giver look.giver.part is_p look.giver.is_i) enters))

-- a feeder that is no splitter feeds from its own cell
pub feeds_own : (parts : List Part) (p q : ℕ) (giver : Part) → HasPart parts p giver → giver.kind ≢ Splitter → Feeds parts p q → FeedsFrom parts p giver.cell q
feeds_own parts p q giver is_p link feeds =
    subst (λ half. FeedsFrom parts p half q)
    (own_cell giver feeds.0 link (covers_at parts p giver feeds.0 is_p feeds.1.look.giver)) feeds.1

-- the taker is on the cell in front
pub taker_at : (parts : List Part) (p q : ℕ) (giver : Part) (half : Cell) → HasPart parts p giver → FeedsFrom parts p half q → IsAt parts q (step giver.dir half)
taker_at parts p q giver half is_p feeds =
    subst (λ g. IsAt parts q (step g.dir half)) (same_part parts p feeds.look.giver.part giver feeds.look.giver.is_i is_p) feeds.look.taker

-- a half hands to one part
pub one_fed : (parts : List Part) → IsWellPlaced parts → (p q r : ℕ) (half : Cell) → FeedsFrom parts p half q → FeedsFrom parts p half r → q ≡ r
one_fed parts placed p q r half f g =
    one_there parts placed q r (step f.look.giver.part.dir half)
    (taker_at parts p q f.look.giver.part half f.look.giver.is_i f) (taker_at parts p r f.look.giver.part half f.look.giver.is_i g)

entrance_cases : (kind : Kind) → (kind ≡ Entrance) ⊎ (kind ≢ Entrance)
entrance_cases Belt = inr (λ e. cc)
entrance_cases Entrance = inl refl
entrance_cases Exit = inr (λ e. cc)
entrance_cases Splitter = inr (λ e. cc)

-- a belt or an underground piece hands to one part
pub one_handed : (parts : List Part) → IsWellPlaced parts → (p q r : ℕ) → IsLink parts p → Hands parts p q → Hands parts p r → q ≡ r
one_handed parts placed p q r link h k =
    let giver = link.0 in let is_p = link.1 in
    ⊎_elim
    (λ enters. one_exit parts placed p q r (hands_pairs parts p q giver is_p enters h) (hands_pairs parts p r giver is_p enters k))
    (λ above. one_fed parts placed p q r giver.cell
    (feeds_own parts p q giver is_p link.2 (hands_feeds parts p q giver is_p above h))
    (feeds_own parts p r giver is_p link.2 (hands_feeds parts p r giver is_p above k)))
    (entrance_cases giver.kind)
