-- What makes a part side-loaded or blocked.
use Rattle.std.proofs.Common.{◌≡◌, ◌≢◌, ◌⊎◌, ◌↔◌, ℕ, ◌<◌, List, length, Option, Some, None, Bool, false, IsTrue, sym, ◌∙◌, ap, subst, inl, inr, ⊎_elim}
use Rattle.std.proofs.lemmas.Option.{same_Some, none-some, slice_get_within}
use Rattle.std.proofs.lemmas.Bool.{false≢true}
use Rattle.bt_parts.specs.declared.part.Cell.{Cell}
use Rattle.bt_parts.specs.declared.part.Dir.{Dir}
use Rattle.bt_parts.specs.declared.part.Kind.TheVariants.{Belt, Entrance, Splitter}
use Rattle.bt_parts.specs.declared.part.Part.{Part}
use Rattle.bt_parts.specs.declared.part.Side.{Side}
use Rattle.bt_parts.specs.declared.part.Side.TheVariants.{Across}
use Rattle.bt_parts.specs.Cells.{Covers, IsGreaterHalf, step, opposite}
use Rattle.bt_parts.specs.Handing.{ComesFrom}
use Rattle.bt_parts.specs.Layouts.{HasPart, IsAt, IsWellPlaced, IsUnderground}
use Rattle.bt_model.specs.Handing.{BlocksFrom}
use Rattle.bt_model.specs.Clean.{HasTwoFeeders, IsSeenAcross, IsSideLoaded, IsHalfBlocked, IsBlocked}
use Rattle.bt_parts.proofs.Places.{same_part, covers_at, within_at}
use Rattle.bt_model.proofs.HandLaws.{belt_fed, belt_feeder}
use Rattle.bt_model.specs.inner.Sight.{left, LooksToward, IsSeen, IsSeenAside, IsSeenTwice}
use Rattle.bt_model.proofs.SightLemmas.{toward, from_toward, one_toward, one_dir, dir_cases, not_opposite, not_left, not_right, left_not_opposite, right_not_opposite, one_side}

piece_link : (part : Part) → IsUnderground part → part.kind ≢ Splitter
piece_link part (inl e) k = absurd (let a = e in let b = k in cc)
piece_link part (inr e) k = absurd (let a = e in let b = k in cc)

belt_no_piece : (part : Part) → part.kind ≡ Belt → IsUnderground part → ⊥
belt_no_piece part e (inl k) = let a = e in let b = k in cc
belt_no_piece part e (inr k) = let a = e in let b = k in cc

two_seen : (parts : List Part) (i : ℕ) (part : Part) → HasPart parts i part → part.kind ≡ Belt
    → (d e : Dir) → d ≢ e → d ≢ opposite part.dir → e ≢ opposite part.dir → IsSeen parts part.cell d → IsSeen parts part.cell e → HasTwoFeeders parts i
two_seen parts i part is_i belt d e apart d_aside e_aside one other = record {
  belt = part;
  is_i = is_i;
  kind = belt;
  one = one.0;
  two = other.0;
  apart = λ same. apart (one_dir parts part.cell d e other.0 (subst (λ k. LooksToward parts part.cell d k) same one.1) other.1);
  one_feeds = belt_fed parts one.0 i d part is_i belt d_aside one.1;
  two_feeds = belt_fed parts other.0 i e part is_i belt e_aside other.1;
}

seen_apart : (parts : List Part) (cell : Cell) (dir d e : Dir) → d ≢ e → d ≢ opposite dir → e ≢ opposite dir
    → IsSeen parts cell d → IsSeen parts cell e → IsSeenTwice parts cell dir
seen_apart parts cell dir d e apart d_aside e_aside one other = by_d (dir_cases dir d) (dir_cases dir e) where
  seen : (f g : Dir) → f ≡ g → IsSeen parts cell f → IsSeen parts cell g
  seen f g same there = subst (λ x. IsSeen parts cell x) same there

  by_d : (d ≡ dir) ⊎ ((d ≡ left dir) ⊎ ((d ≡ opposite (left dir)) ⊎ (d ≡ opposite dir)))
      → (e ≡ dir) ⊎ ((e ≡ left dir) ⊎ ((e ≡ opposite (left dir)) ⊎ (e ≡ opposite dir))) → IsSeenTwice parts cell dir
  by_d (inl a) (inl b) = absurd (apart (a ∙ sym b))
  by_d (inl a) (inr (inl b)) = inl (seen d dir a one, inl (seen e (left dir) b other))
  by_d (inl a) (inr (inr (inl b))) = inl (seen d dir a one, inr (seen e (opposite (left dir)) b other))
  by_d (inl a) (inr (inr (inr b))) = absurd (e_aside b)
  by_d (inr (inl a)) (inl b) = inl (seen e dir b other, inl (seen d (left dir) a one))
  by_d (inr (inl a)) (inr (inl b)) = absurd (apart (a ∙ sym b))
  by_d (inr (inl a)) (inr (inr (inl b))) = inr (seen d (left dir) a one, seen e (opposite (left dir)) b other)
  by_d (inr (inl a)) (inr (inr (inr b))) = absurd (e_aside b)
  by_d (inr (inr (inl a))) (inl b) = inl (seen e dir b other, inr (seen d (opposite (left dir)) a one))
  by_d (inr (inr (inl a))) (inr (inl b)) = inr (seen e (left dir) b other, seen d (opposite (left dir)) a one)
  by_d (inr (inr (inl a))) (inr (inr (inl b))) = absurd (apart (a ∙ sym b))
  by_d (inr (inr (inl a))) (inr (inr (inr b))) = absurd (e_aside b)
  by_d (inr (inr (inr a))) f = absurd (d_aside a)

-- a belt is side-loaded where parts look at it from two sides
pub belt_loaded : (parts : List Part) → IsWellPlaced parts → (i : ℕ) (part : Part) (b : Bool) → HasPart parts i part → part.kind ≡ Belt
    → (IsTrue b ↔ IsSeenTwice parts part.cell part.dir) → IsTrue b ↔ IsSideLoaded parts i
belt_loaded parts placed i part b is_i belt tells = (
  λ t. inl (⊎_elim
      (λ behind. ⊎_elim
      (λ l. two_seen parts i part is_i belt part.dir (left part.dir) (λ e. not_left part.dir (sym e)) (not_opposite part.dir) (left_not_opposite part.dir) behind.0 l)
      (λ r. two_seen parts i part is_i belt part.dir (opposite (left part.dir)) (λ e. not_right part.dir (sym e)) (not_opposite part.dir) (right_not_opposite part.dir) behind.0 r)
      behind.1)
      (λ both. two_seen parts i part is_i belt (left part.dir) (opposite (left part.dir)) (not_opposite (left part.dir)) (left_not_opposite part.dir) (right_not_opposite part.dir) both.0 both.1)
      (tells.0 t)),
  λ loaded. ⊎_elim
      (λ two.
      let one = belt_feeder parts two.one i part is_i belt two.one_feeds in
      let other = belt_feeder parts two.two i part is_i belt two.two_feeds in
      tells.1 (seen_apart parts part.cell part.dir one.0 other.0
      (λ e. two.apart (one_toward parts placed part.cell other.0 two.one two.two (subst (λ d. LooksToward parts part.cell d two.one) e one.2) other.2))
      one.1 other.1 (two.one, one.2) (two.two, other.2)))
      (λ across. absurd (belt_no_piece part belt
      (subst (λ t. IsUnderground t) (same_part parts i across.look.taker.part part across.look.taker.is_i is_i) across.underground)))
      loaded,
)

aside_sees : (parts : List Part) (i : ℕ) (part : Part) → HasPart parts i part → IsUnderground part → (dir : Dir) → dir ≢ part.dir → dir ≢ opposite part.dir
    → IsSeen parts part.cell dir → IsSeenAcross parts i
aside_sees parts i part is_i under dir aside no_ahead seen =
    let look = from_toward parts seen.0 i dir part Across is_i (aside, no_ahead) seen.1 in
    record {
      giver = seen.0;
      half = step (opposite dir) part.cell;
      look = look;
      underground = subst (λ t. IsUnderground t) (same_part parts i part look.taker.part is_i look.taker.is_i) under;
    }

seen_aside : (parts : List Part) (cell : Cell) (dir d : Dir) → d ≢ dir → d ≢ opposite dir → IsSeen parts cell d → IsSeenAside parts cell dir
seen_aside parts cell dir d aside no_ahead seen =
    ⊎_elim (λ e. absurd (aside e))
    (λ other. ⊎_elim (λ e. inl (subst (λ x. IsSeen parts cell x) e seen))
    (λ more. ⊎_elim (λ e. inr (subst (λ x. IsSeen parts cell x) e seen)) (λ e. absurd (no_ahead e)) more) other)
    (dir_cases dir d)

-- an underground piece is side-loaded where a part looks at it from a side
pub piece_loaded : (parts : List Part) (i : ℕ) (part : Part) (b : Bool) → HasPart parts i part → IsUnderground part
    → (IsTrue b ↔ IsSeenAside parts part.cell part.dir) → IsTrue b ↔ IsSideLoaded parts i
piece_loaded parts i part b is_i under tells = (
  λ t. inr (⊎_elim
      (λ l. aside_sees parts i part is_i under (left part.dir) (not_left part.dir) (left_not_opposite part.dir) l)
      (λ r. aside_sees parts i part is_i under (opposite (left part.dir)) (not_right part.dir) (right_not_opposite part.dir) r)
      (tells.0 t)),
  λ loaded. ⊎_elim
      (λ two. absurd (belt_no_piece part (subst (λ p. p.kind ≡ Belt) (same_part parts i two.belt part two.is_i is_i) two.kind) under))
      (λ across.
      let look = across.look in
      let from : ComesFrom look.giver.part.dir part.dir Across =
      subst (λ t. ComesFrom look.giver.part.dir t.dir Across) (same_part parts i look.taker.part part look.taker.is_i is_i) look.comes in
      tells.1 (seen_aside parts part.cell part.dir look.giver.part.dir from.0 from.1
      (across.giver, toward parts across.giver i across.half Across part is_i (piece_link part under) look)))
      loaded,
)

-- a half is blocked where what is in front of it blocks
pub half_blocked : (parts : List Part) (i j : ℕ) (giver taker : Part) (half there : Cell) (side : Side) (b : Bool)
    → HasPart parts i giver → HasPart parts j taker → IsAt parts i half → there ≡ step giver.dir half → IsAt parts j there
    → ((k : ℕ) → IsAt parts k there → j ≡ k) → giver.kind ≢ Entrance → ComesFrom giver.dir taker.dir side
    → (IsTrue b ↔ BlocksFrom taker.kind side) → IsTrue b ↔ IsHalfBlocked parts i half
half_blocked parts i j giver taker half there side b is_i is_j here e at alone above from tells = (
  λ t. record {
    taker = j;
    side = side;
    look = record {
      giver = record { part = giver; is_i = is_i; covers = covers_at parts i giver half is_i here };
      no_entrance = above;
      taker = record { part = taker; is_i = is_j; covers = subst (λ c. Covers taker c) e (covers_at parts j taker there is_j at) };
      comes = from;
    };
    blocked = tells.0 t;
  },
  λ blocked.
      let look = blocked.look in
      let givers : look.giver.part ≡ giver = same_part parts i look.giver.part giver look.giver.is_i is_i in
      let same : j ≡ blocked.taker = alone blocked.taker (subst (λ c. IsAt parts blocked.taker c) (ap (λ g. step g.dir half) givers ∙ sym e) look.taker) in
      let takers : look.taker.part ≡ taker = same_part parts blocked.taker look.taker.part taker look.taker.is_i (subst (λ k. HasPart parts k taker) same is_j) in
      let sides : blocked.side ≡ side = one_side giver.dir taker.dir blocked.side side
      (subst (λ g. ComesFrom g.dir taker.dir blocked.side) givers (subst (λ t. ComesFrom look.giver.part.dir t.dir blocked.side) takers look.comes)) from in
      tells.1 (subst (λ s. BlocksFrom taker.kind s) sides (subst (λ t. BlocksFrom t.kind blocked.side) takers blocked.blocked)),
)

-- and where nothing is in front of it, it isn't
pub half_clear : (parts : List Part) (i : ℕ) (giver : Part) (half there : Cell) → HasPart parts i giver → there ≡ step giver.dir half
    → ((k : ℕ) → IsAt parts k there → ⊥) → IsTrue false ↔ IsHalfBlocked parts i half
half_clear parts i giver half there is_i e none = (
  λ t. absurd (false≢true t),
  λ blocked.
      let look = blocked.look in
      absurd (none blocked.taker (subst (λ c. IsAt parts blocked.taker c)
      (ap (λ g. step g.dir half) (same_part parts i look.giver.part giver look.giver.is_i is_i) ∙ sym e) look.taker)),
)

pub half_under : (parts : List Part) (i : ℕ) (giver : Part) (half : Cell) → HasPart parts i giver → giver.kind ≡ Entrance → IsTrue false ↔ IsHalfBlocked parts i half
half_under parts i giver half is_i under = (
  λ t. absurd (false≢true t),
  λ blocked.
      let look = blocked.look in
      absurd (look.no_entrance (subst (λ g. g.kind ≡ Entrance) (same_part parts i giver look.giver.part is_i look.giver.is_i) under)),
)

-- a part is blocked where one of its halves is
pub blocked_two : (parts : List Part) (i : ℕ) (part : Part) (first : Cell) (second : Option Cell) (half : Cell) (b : Bool) → HasPart parts i part
    → first ≡ part.cell → ((c : Cell) → (second ≡ Some c) ↔ IsGreaterHalf part c) → second ≡ Some half → (IsHalfBlocked parts i first → ⊥)
    → (IsTrue b ↔ IsHalfBlocked parts i half) → IsTrue b ↔ IsBlocked parts i
blocked_two parts i part first second half b is_i e is_second some none tells = (
  λ t. (half, tells.0 t),
  λ blocked. ⊎_elim
      (λ own. absurd (none (subst (λ c. IsHalfBlocked parts i c) (own ∙ sym e) blocked.1)))
      (λ greater. tells.1 (subst (λ c. IsHalfBlocked parts i c) (same_Some blocked.0 half (sym ((is_second blocked.0).1 greater) ∙ some)) blocked.1))
      (covers_at parts i part blocked.0 is_i blocked.1.look.giver),
)

pub blocked_one : (parts : List Part) (i : ℕ) (part : Part) (first : Cell) (second : Option Cell) → HasPart parts i part
    → first ≡ part.cell → ((c : Cell) → (second ≡ Some c) ↔ IsGreaterHalf part c) → second ≡ None → (IsHalfBlocked parts i first → ⊥)
    → IsTrue false ↔ IsBlocked parts i
blocked_one parts i part first second is_i e is_second none_there none = (
  λ t. absurd (false≢true t),
  λ blocked. ⊎_elim
      (λ own. absurd (none (subst (λ c. IsHalfBlocked parts i c) (own ∙ sym e) blocked.1)))
      (λ greater. absurd (none-some blocked.0 (sym none_there ∙ (is_second blocked.0).1 greater)))
      (covers_at parts i part blocked.0 is_i blocked.1.look.giver),
)

pub side_loaded_within : (parts : List Part) (i : ℕ) → IsSideLoaded parts i → i < length parts
side_loaded_within parts i (inl two) = slice_get_within parts i two.belt two.is_i
side_loaded_within parts i (inr across) = within_at parts i _ across.look.taker

pub blocked_within : (parts : List Part) (i : ℕ) → IsBlocked parts i → i < length parts
blocked_within parts i blocked = within_at parts i blocked.0 blocked.1.look.giver
