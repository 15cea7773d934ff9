-- In an orderly layout each belt and underground piece is handed to by one part, and hands to what is in front of it.
use Rattle.std.proofs.Common.{◌≡◌, ◌≢◌, ◌⊎◌, ◌↔◌, ℕ, ◌<◌, List, length, Option, Some, None, refl, sym, ◌∙◌, ap, subst, inl, inr, ⊎_elim}
use Rattle.std.specs.Option.{MatchOption, IfSome}
use Rattle.std.proofs.lemmas.Option.{none-some}
use Rattle.std.proofs.lemmas.Bool.{cases_eq}
use Rattle.bt_parts.specs.declared.part.Cell.{Cell}
use Rattle.bt_parts.specs.declared.part.Dir.{Dir}
use Rattle.bt_parts.specs.declared.part.Kind.{Kind}
use Rattle.bt_parts.specs.declared.part.Kind.TheVariants.{Belt, Entrance, Exit, Splitter}
use Rattle.bt_parts.specs.declared.part.Part.{Part}
use Rattle.bt_parts.specs.declared.part.Side.{Side}
use Rattle.bt_parts.specs.declared.part.Side.TheVariants.{Behind, Across, Ahead}
use Rattle.bt_parts.specs.Cells.{step, opposite}
use Rattle.bt_parts.specs.Handing.{ComesFrom, TakesFrom}
use Rattle.bt_parts.specs.Layouts.{HasPart, IsAt, IsUnderground, Pairs}
use Rattle.bt_model.specs.Handing.{LooksFrom, FeedsFrom, Feeds, Hands, BlocksFrom}
use Rattle.bt_model.specs.Chains.{IsLink, LinksTo, IsOutput}
use Rattle.bt_model.specs.Clean.{IsSeenAcross}
use Rattle.bt_parts.proofs.Places.{same_part, covers_at, within_at}
use Rattle.bt_model.proofs.HandLemmas.{one_handed, feeds_own as fed_own, taker_at}
use Rattle.bt_model.specs.inner.Sight.{left, LooksToward, IsBeltFeeder}
use Rattle.bt_model.specs.Orderly.{IsOrderly}
use Rattle.bt_model.proofs.SightLemmas.{toward, from_toward, one_toward, dir_cases, comes, one_side, right_not_opposite}

pub belt_link : (part : Part) → part.kind ≡ Belt → part.kind ≢ Splitter
belt_link part e k = absurd (let a = e in let b = k in cc)

-- a belt takes from all sides but ahead
pub belt_fed : (parts : List Part) (p i : ℕ) (dir : Dir) (part : Part) → HasPart parts i part → part.kind ≡ Belt → dir ≢ opposite part.dir
    → LooksToward parts part.cell dir p → Feeds parts p i
belt_fed parts p i dir part is_i belt aside there =
    let from = comes dir part.dir in
    let look = from_toward parts p i dir part from.0 is_i from.1 there in (
      step (opposite dir) part.cell,
      record {
        side = from.0;
        look = look;
        takes = subst (λ k. TakesFrom k from.0) (sym (ap (λ t. t.kind) (same_part parts i look.taker.part part look.taker.is_i is_i) ∙ belt))
            (λ e. aside (subst (λ s. ComesFrom dir part.dir s) e from.1));
      },
    )

-- a feeder of a belt looks at it, and not from ahead
pub belt_feeder : (parts : List Part) (p i : ℕ) (part : Part) → HasPart parts i part → part.kind ≡ Belt → Feeds parts p i
    → (dir : Dir) × (dir ≢ opposite part.dir) × LooksToward parts part.cell dir p
belt_feeder parts p i part is_i belt feeds =
    let look = feeds.1.look in
    let same = same_part parts i look.taker.part part look.taker.is_i is_i in
    let takes : TakesFrom Belt feeds.1.side = subst (λ k. TakesFrom k feeds.1.side) (ap (λ t. t.kind) same ∙ belt) feeds.1.takes in (
      look.giver.part.dir,
      λ e. takes (one_side look.giver.part.dir part.dir feeds.1.side Ahead (subst (λ t. ComesFrom look.giver.part.dir t.dir feeds.1.side) same look.comes) e),
      toward parts p i feeds.0 feeds.1.side part is_i (belt_link part belt) look,
    )

-- the kinds of a pair's ends
pub pair_enters : (parts : List Part) (a b : ℕ) (part : Part) → HasPart parts a part → Pairs parts a b → part.kind ≡ Entrance
pair_enters parts a b part is_a p = subst (λ e. e.kind ≡ Entrance) (same_part parts a p.entrance part p.is_a is_a) p.enters

pub pair_leaves : (parts : List Part) (a b : ℕ) (part : Part) → HasPart parts b part → Pairs parts a b → part.kind ≡ Exit
pair_leaves parts a b part is_b p = subst (λ e. e.kind ≡ Exit) (same_part parts b p.exit part p.is_b is_b) p.leaves

-- what a part takes, by its kind
pub takes_at : (parts : List Part) (p i : ℕ) (half : Cell) (part : Part) → HasPart parts i part → (feeds : FeedsFrom parts p half i) → TakesFrom part.kind feeds.side
takes_at parts p i half part is_i feeds =
    subst (λ t. TakesFrom t.kind feeds.side) (same_part parts i feeds.look.taker.part part feeds.look.taker.is_i is_i) feeds.takes

pub comes_at : (parts : List Part) (p i : ℕ) (half : Cell) (part : Part) → HasPart parts i part → (feeds : FeedsFrom parts p half i)
    → ComesFrom feeds.look.giver.part.dir part.dir feeds.side
comes_at parts p i half part is_i feeds =
    subst (λ t. ComesFrom feeds.look.giver.part.dir t.dir feeds.side) (same_part parts i feeds.look.taker.part part feeds.look.taker.is_i is_i) feeds.look.comes

-- a feeder of an entrance is behind it
entrance_feeder : (parts : List Part) (p i : ℕ) (part : Part) → HasPart parts i part → part.kind ≡ Entrance → Feeds parts p i
    → LooksToward parts part.cell part.dir p
entrance_feeder parts p i part is_i enters feeds =
    let behind : feeds.1.side ≡ Behind = subst (λ k. TakesFrom k feeds.1.side) enters (takes_at parts p i feeds.0 part is_i feeds.1) in
    let along : feeds.1.look.giver.part.dir ≡ part.dir = subst (λ s. ComesFrom feeds.1.look.giver.part.dir part.dir s) behind (comes_at parts p i feeds.0 part is_i feeds.1) in
    subst (λ d. LooksToward parts part.cell d p) along
    (toward parts p i feeds.0 feeds.1.side part is_i (λ e. let k = enters in cc) feeds.1.look)

-- nothing feeds an exit
pub exit_unfed : (parts : List Part) (p i : ℕ) (part : Part) → HasPart parts i part → part.kind ≡ Exit → Feeds parts p i → ⊥
exit_unfed parts p i part is_i leaves feeds = subst (λ k. TakesFrom k feeds.1.side) leaves (takes_at parts p i feeds.0 part is_i feeds.1)

-- one part hands to a belt or an underground piece
one_giver_of : (parts : List Part) → IsOrderly parts → (p q i : ℕ) (part : Part) (kind : Kind) → HasPart parts i part → part.kind ≡ kind → kind ≢ Splitter
    → Hands parts p i → Hands parts q i → p ≡ q
one_giver_of parts orderly p q i part Belt is_i k link (inl pair) other = absurd (let a = k in let b = pair_leaves parts p i part is_i pair in cc)
one_giver_of parts orderly p q i part Belt is_i k link (inr feeds) (inl pair) = absurd (let a = k in let b = pair_leaves parts q i part is_i pair in cc)
one_giver_of parts orderly p q i part Belt is_i k link (inr one) (inr other) =
    ⊎_elim (λ e. e) (λ apart. absurd (orderly.no_side_load i (inl (record {
      belt = part;
      is_i = is_i;
      kind = k;
      one = p;
      two = q;
      apart = apart;
      one_feeds = one;
      two_feeds = other;
    })))) (cases_eq p q)
one_giver_of parts orderly p q i part Entrance is_i k link (inl pair) other = absurd (let a = k in let b = pair_leaves parts p i part is_i pair in cc)
one_giver_of parts orderly p q i part Entrance is_i k link (inr feeds) (inl pair) = absurd (let a = k in let b = pair_leaves parts q i part is_i pair in cc)
one_giver_of parts orderly p q i part Entrance is_i k link (inr one) (inr other) =
    one_toward parts orderly.well_placed part.cell part.dir p q (entrance_feeder parts p i part is_i k one) (entrance_feeder parts q i part is_i k other)
one_giver_of parts orderly p q i part Exit is_i k link (inl one) (inl other) =
    let paired = orderly.paired i (part, is_i, inr k) in
    paired.no_other p (inr one) ∙ sym (paired.no_other q (inr other))
one_giver_of parts orderly p q i part Exit is_i k link (inl one) (inr feeds) = absurd (exit_unfed parts q i part is_i k feeds)
one_giver_of parts orderly p q i part Exit is_i k link (inr feeds) other = absurd (exit_unfed parts p i part is_i k feeds)
one_giver_of parts orderly p q i part Splitter is_i k link one other = absurd (link refl)

pub one_giver : (parts : List Part) → IsOrderly parts → (p q i : ℕ) → IsLink parts i → Hands parts p i → Hands parts q i → p ≡ q
one_giver parts orderly p q i link one other =
    one_giver_of parts orderly p q i link.0 link.0.kind link.1 refl link.2 one other

-- in an orderly layout a part takes from each that looks at it
takes_of : (kind : Kind) (side : Side) → (BlocksFrom kind side → ⊥) → ((kind ≡ Entrance) ⊎ (kind ≡ Exit) → side ≡ Across → ⊥) → TakesFrom kind side
takes_of Belt side free aside = free
takes_of Entrance Behind free aside = refl
takes_of Entrance Across free aside = absurd (aside (inl refl) refl)
takes_of Entrance Ahead free aside = absurd (free refl)
takes_of Exit Behind free aside = absurd (free (λ e. cc))
takes_of Exit Across free aside = absurd (aside (inr refl) refl)
takes_of Exit Ahead free aside = absurd (free (λ e. cc))
takes_of Splitter Behind free aside = refl
takes_of Splitter Across free aside = absurd (free (λ e. cc))
takes_of Splitter Ahead free aside = absurd (free (λ e. cc))

pub all_taken : (parts : List Part) → IsOrderly parts → (p q : ℕ) (half : Cell) (side : Side) → (look : LooksFrom parts p half q side) → TakesFrom look.taker.part.kind side
all_taken parts orderly p q half side look =
    takes_of look.taker.part.kind side
    (λ blocks. orderly.no_blocked p (half, record { taker = q; side = side; look = look; blocked = blocks }))
    (λ under across. orderly.no_side_load q (inr (seen_across parts p q half side look under across)))
  where
    seen_across : (parts : List Part) (p q : ℕ) (half : Cell) (side : Side) (look : LooksFrom parts p half q side) → IsUnderground look.taker.part → side ≡ Across
        → IsSeenAcross parts q
    seen_across parts p q half side look under across = record {
      giver = p;
      half = half;
      look = record {
        giver = look.giver;
        no_entrance = look.no_entrance;
        taker = look.taker;
        comes = subst (λ s. ComesFrom look.giver.part.dir look.taker.part.dir s) across look.comes;
      };
      underground = under;
    }

-- the part in front of a cell is fed by it
pub front_fed : (parts : List Part) → IsOrderly parts → (p q : ℕ) (half : Cell) (giver : Part) → HasPart parts p giver → IsAt parts p half
    → giver.kind ≢ Entrance → IsAt parts q (step giver.dir half) → FeedsFrom parts p half q
front_fed parts orderly p q half giver is_p here above there =
    let from = comes giver.dir there.part.dir in
    let look : LooksFrom parts p half q from.0 = record {
      giver = record { part = giver; is_i = is_p; covers = covers_at parts p giver half is_p here };
      no_entrance = above;
      taker = there;
      comes = from.1;
    } in
    record { side = from.0; look = look; takes = all_taken parts orderly p q half from.0 look }

-- the giver of each kind of part
pub belt_giver : (parts : List Part) (i : ℕ) (part : Part) (o : Option ℕ) → HasPart parts i part → part.kind ≡ Belt
    → MatchOption o ((p : ℕ) → IsBeltFeeder parts part p → ⊥) (IsBeltFeeder parts part) → MatchOption o ((p : ℕ) → Hands parts p i → ⊥) (λ p. Hands parts p i)
belt_giver parts i part None is_i belt none = λ p hands. ⊎_elim
    (λ pair. let a = belt in let b = pair_leaves parts p i part is_i pair in absurd (cc))
    (λ feeds. none p (belt_feeder parts p i part is_i belt feeds)) hands
belt_giver parts i part (Some p) is_i belt some = inr (belt_fed parts p i some.0 part is_i belt some.1 some.2)

pub entrance_giver : (parts : List Part) (i : ℕ) (part : Part) (o : Option ℕ) → HasPart parts i part → part.kind ≡ Entrance
    → MatchOption o ((p : ℕ) → LooksToward parts part.cell part.dir p → ⊥) (LooksToward parts part.cell part.dir) → MatchOption o ((p : ℕ) → Hands parts p i → ⊥) (λ p. Hands parts p i)
entrance_giver parts i part None is_i enters none = λ p hands. ⊎_elim
    (λ pair. let a = enters in let b = pair_leaves parts p i part is_i pair in absurd (cc))
    (λ feeds. none p (entrance_feeder parts p i part is_i enters feeds)) hands
entrance_giver parts i part (Some p) is_i enters some =
    let look = from_toward parts p i part.dir part Behind is_i refl some in
    inr (
      step (opposite part.dir) part.cell,
      record {
        side = Behind;
        look = look;
        takes = subst (λ k. TakesFrom k Behind) (sym (ap (λ t. t.kind) (same_part parts i look.taker.part part look.taker.is_i is_i) ∙ enters)) refl;
      },
    )

pub splitter_giver : (parts : List Part) (i : ℕ) (part : Part) → HasPart parts i part → part.kind ≡ Splitter → IsLink parts i → (p : ℕ) → Hands parts p i → ⊥
splitter_giver parts i part is_i splits link p hands = link.2 (subst (λ q. q.kind ≡ Splitter) (same_part parts i part link.0 is_i link.1) splits)

-- a looker of a belt from one of three directions
pub three_seen : (parts : List Part) (belt : Part)
    → ((p : ℕ) → LooksToward parts belt.cell belt.dir p → ⊥) → ((p : ℕ) → LooksToward parts belt.cell (left belt.dir) p → ⊥)
    → (o : Option ℕ) → MatchOption o ((p : ℕ) → LooksToward parts belt.cell (opposite (left belt.dir)) p → ⊥) (LooksToward parts belt.cell (opposite (left belt.dir)))
    → MatchOption o ((p : ℕ) → IsBeltFeeder parts belt p → ⊥) (IsBeltFeeder parts belt)
three_seen parts belt none_behind none_left None none_right = λ p feeder.
    ⊎_elim (λ e. none_behind p (subst (λ d. LooksToward parts belt.cell d p) e feeder.2))
    (λ other. ⊎_elim (λ e. none_left p (subst (λ d. LooksToward parts belt.cell d p) e feeder.2))
    (λ more. ⊎_elim (λ e. none_right p (subst (λ d. LooksToward parts belt.cell d p) e feeder.2)) (λ e. feeder.1 e) more) other)
    (dir_cases belt.dir feeder.0)
three_seen parts belt none_behind none_left (Some p) some = (opposite (left belt.dir), right_not_opposite belt.dir, some)

kind_cases : (part : Part) → (kind : Kind) → part.kind ≡ kind → kind ≢ Splitter → kind ≢ Entrance → (part.kind ≡ Belt) ⊎ (part.kind ≡ Exit)
kind_cases part Belt k link above = inl k
kind_cases part Entrance k link above = absurd (above refl)
kind_cases part Exit k link above = inr k
kind_cases part Splitter k link above = absurd (link refl)

-- what a belt or an exit hands to
pub front_taker : (parts : List Part) → IsOrderly parts → (i : ℕ) (part : Part) (there : Cell) (o : Option ℕ) → HasPart parts i part → IsLink parts i
    → part.kind ≢ Entrance → there ≡ step part.dir part.cell → ((j : ℕ) → (o ≡ Some j) ↔ IsAt parts j there)
    → MatchOption o (IsOutput parts i) (Hands parts i)
front_taker parts orderly i part there None is_i link above e found = record {
  part = part;
  is_i = is_i;
  kind = kind_cases part part.kind refl (subst (λ q. q.kind ≢ Splitter) (same_part parts i link.0 part link.1 is_i) link.2) above;
  clear = λ q at. none-some q ((found q).1 (subst (λ c. IsAt parts q c) (sym e) at));
}
front_taker parts orderly i part there (Some j) is_i link above e found =
    inr (
      part.cell,
      front_fed parts orderly i j part.cell part is_i (record { part = part; is_i = is_i; covers = inl refl }) above
          (subst (λ c. IsAt parts j c) e ((found j).0 refl)),
    )

pub at_within : (parts : List Part) (there : Cell) (o : Option ℕ) → ((j : ℕ) → (o ≡ Some j) ↔ IsAt parts j there) → IfSome o (λ j. j < length parts)
at_within parts there None found = tt
at_within parts there (Some j) found = within_at parts j there ((found j).0 refl)

-- where a splitter hands to a part, no link does
pub no_link_before : (parts : List Part) → IsOrderly parts → (i p : ℕ) (part : Part) → IsLink parts i → Hands parts p i → HasPart parts p part → part.kind ≡ Splitter
    → (q : ℕ) → LinksTo parts q i → ⊥
no_link_before parts orderly i p part link hands is_p splits q links =
    let same : p ≡ q = one_giver parts orderly p q i link hands links.2 in
    links.0.2 (subst (λ s. s.kind ≡ Splitter) (same_part parts q part links.0.0 (subst (λ k. HasPart parts k part) same is_p) links.0.1) splits)

pub no_link_after : (parts : List Part) → IsOrderly parts → (i j : ℕ) (part : Part) → IsLink parts i → Hands parts i j → HasPart parts j part → part.kind ≡ Splitter
    → (k : ℕ) → LinksTo parts i k → ⊥
no_link_after parts orderly i j part link hands is_j splits k links =
    let same : j ≡ k = one_handed parts orderly.well_placed i j k link hands links.2 in
    links.1.2 (subst (λ s. s.kind ≡ Splitter) (same_part parts k part links.1.0 (subst (λ x. HasPart parts x part) same is_j) links.1.1) splits)

-- an output hands to nothing
pub output_hands_none : (parts : List Part) (i : ℕ) → IsOutput parts i → (j : ℕ) → Hands parts i j → ⊥
output_hands_none parts i output j (inl pair) =
    ⊎_elim (λ k. let a = k in let b = pair_enters parts i j output.part output.is_i pair in cc)
    (λ k. let a = k in let b = pair_enters parts i j output.part output.is_i pair in cc) output.kind
output_hands_none parts i output j (inr feeds) =
    let feeds_own : FeedsFrom parts i output.part.cell j = fed_own parts i j output.part output.is_i (no_splitter output.part output.kind) feeds in
    output.clear j (taker_at parts i j output.part output.part.cell output.is_i feeds_own)
  where
    no_splitter : (part : Part) → (part.kind ≡ Belt) ⊎ (part.kind ≡ Exit) → part.kind ≢ Splitter
    no_splitter part (inl e) k = absurd (let a = e in let b = k in cc)
    no_splitter part (inr e) k = absurd (let a = e in let b = k in cc)
