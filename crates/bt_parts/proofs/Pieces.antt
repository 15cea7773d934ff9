-- The first piece from an end of a pair on is its other end.
use Rattle.std.proofs.Common.{◌≡◌, ◌↔◌, ℕ, ◌+◌, ◌-◌, ◌<◌, ◌≤◌, List, length, Some, None, sym, ◌∙◌, ap, subst, inl, inr, ⊎_elim, arith}
use Rattle.std.proofs.lemmas.Option.{same_Some, none-some, slice_get_within}
use Rattle.std.proofs.lemmas.Bool.{cases_order, cases_lt}
use Rattle.bt_parts.specs.declared.part.Cell.{Cell}
use Rattle.bt_parts.specs.declared.part.Dir.{Dir}
use Rattle.bt_parts.specs.declared.part.Kind.{Kind}
use Rattle.bt_parts.specs.declared.part.Kind.TheVariants.{Entrance, Exit}
use Rattle.bt_parts.specs.declared.part.Part.{Part}
use Rattle.bt_parts.specs.declared.part.Tier.{Tier}
use Rattle.bt_parts.specs.Cells.{steps, opposite, Covers}
use Rattle.bt_parts.specs.Tiers.{reach_of}
use Rattle.bt_parts.specs.Layouts.{HasPart, IsAt, IsWellPlaced, IsUnderground, IsPieceOn, Pairs, ArePaired, IsPieceAt}
use Rattle.bt_parts.specs.inner.Looking.{IsPieceThere, NoneNearer, IsFirstPiece, IsFarEnd, IsEndFor}
use Rattle.bt_parts.proofs.Steps.{seen_back, near_end, opposite-opposite}
use Rattle.bt_parts.proofs.Places.{same_part, own_cell, no_splitter, one_there, covers_at}

-- there is one first piece
pub one_first : (parts : List Part) (from : Part) (toward : Dir) → IsWellPlaced parts → (i j : ℕ)
    → IsFirstPiece parts from toward i → IsFirstPiece parts from toward j → i ≡ j
one_first parts from toward placed i j f g =
    ⊎_elim
    (λ e. one_there parts placed i j (steps f.distance toward from.cell)
    (record { part = f.piece.part; is_i = f.piece.is_i; covers = f.piece.covers })
    (record { part = g.piece.part; is_i = g.piece.is_i; covers = subst (λ d. Covers g.piece.part (steps d toward from.cell)) (sym e) g.piece.covers }))
    (λ apart. ⊎_elim
    (λ lt. absurd (g.none_nearer f.distance i f.apart lt f.piece))
    (λ gt. absurd (f.none_nearer g.distance j g.apart gt g.piece))
    apart)
    (cases_order f.distance g.distance)

-- a first piece is within reach
pub none_first : (parts : List Part) (from : Part) (toward : Dir) (i : ℕ) → NoneNearer parts from toward (reach_of from.tier + 2)
    → IsFirstPiece parts from toward i → ⊥
none_first parts from toward i none f = none f.distance i f.apart f.within f.piece

on_axis_of : (part from : Part) → IsUnderground part → part.tier ≡ from.tier → part.dir ≡ from.dir → IsPieceOn from.tier from.dir part
on_axis_of part from under tier dir = (under, tier, inl dir)

-- from the entrance on the exit is the first piece
pub ahead_first : (parts : List Part) (a b : ℕ) (p : Pairs parts a b) → IsFirstPiece parts p.entrance p.entrance.dir b
ahead_first parts a b p = record {
  distance = p.distance;
  apart = p.apart;
  within = let w = p.within in omega arith;
  piece = record {
    part = p.exit;
    is_i = p.is_b;
    covers = inl (sym p.ahead);
    on_axis = on_axis_of p.exit p.entrance (inr p.leaves) p.same_tier p.same_dir;
  };
  none_nearer = λ d i some lt there. p.none_between d i there.part some lt there.is_i there.covers there.on_axis;
}

-- from the exit back the entrance is the first piece
pub back_first : (parts : List Part) (a b : ℕ) (p : Pairs parts a b) → IsFirstPiece parts p.exit (opposite p.exit.dir) a
back_first parts a b p = record {
  distance = p.distance;
  apart = p.apart;
  within = subst (λ t. p.distance < reach_of t + 2) (sym p.same_tier) (let w = p.within in omega arith);
  piece = record {
    part = p.entrance;
    is_i = p.is_a;
    covers = inl (sym (near_end p.entrance.dir p.distance p.entrance.cell p.exit.cell p.ahead
        ∙ ap (λ d. steps p.distance (opposite d) p.exit.cell) (sym p.same_dir)));
    on_axis = on_axis_of p.entrance p.exit (inl p.enters) (sym p.same_tier) (sym p.same_dir);
  };
  none_nearer = λ d i some lt there.
      p.none_between (p.distance - d) i there.part (omega arith) (omega arith) there.is_i
      (subst (λ c. Covers there.part c)
      (ap (λ e. steps d (opposite e) p.exit.cell) p.same_dir
      ∙ seen_back p.entrance.dir d (p.distance - d) p.distance p.entrance.cell p.exit.cell (omega arith) p.ahead)
      there.covers)
      (subst (λ t. IsPieceOn t p.entrance.dir there.part) p.same_tier
      (subst (λ e. IsPieceOn p.exit.tier e there.part) p.same_dir there.on_axis));
}

-- the first piece is an exit of the entrance's direction
ahead_pair : (parts : List Part) (a b : ℕ) (entrance : Part) → HasPart parts a entrance → entrance.kind ≡ Entrance
    → (f : IsFirstPiece parts entrance entrance.dir b) → f.piece.part.kind ≡ Exit → f.piece.part.dir ≡ entrance.dir → Pairs parts a b
ahead_pair parts a b entrance is_a enters f leaves same_dir = record {
  entrance = entrance;
  is_a = is_a;
  enters = enters;
  exit = f.piece.part;
  is_b = f.piece.is_i;
  leaves = leaves;
  same_tier = f.piece.on_axis.1;
  same_dir = same_dir;
  distance = f.distance;
  apart = f.apart;
  within = let w = f.within in omega arith;
  ahead = sym (own_cell f.piece.part _ (no_splitter f.piece.part f.piece.on_axis.0) f.piece.covers);
  none_between = λ d i part some lt here cov axis.
      f.none_nearer d i some lt (record { part = part; is_i = here; covers = cov; on_axis = axis });
}

-- the first piece is an entrance of the exit's direction
back_pair : (parts : List Part) (a b : ℕ) (exit : Part) → HasPart parts b exit → exit.kind ≡ Exit
    → (f : IsFirstPiece parts exit (opposite exit.dir) a) → f.piece.part.kind ≡ Entrance → f.piece.part.dir ≡ exit.dir → Pairs parts a b
back_pair parts a b exit is_b leaves f enters same_dir =
    let near : f.piece.part.cell ≡ steps f.distance (opposite exit.dir) exit.cell = sym (own_cell f.piece.part _ (no_splitter f.piece.part f.piece.on_axis.0) f.piece.covers) in
    let ahead : exit.cell ≡ steps f.distance f.piece.part.dir f.piece.part.cell =
    near_end (opposite exit.dir) f.distance exit.cell f.piece.part.cell near
    ∙ ap (λ d. steps f.distance d f.piece.part.cell) (opposite-opposite exit.dir ∙ sym same_dir) in
    record {
      entrance = f.piece.part;
      is_a = f.piece.is_i;
      enters = enters;
      exit = exit;
      is_b = is_b;
      leaves = leaves;
      same_tier = sym f.piece.on_axis.1;
      same_dir = sym same_dir;
      distance = f.distance;
      apart = f.apart;
      within = subst (λ t. f.distance ≤ reach_of t + 1) (sym f.piece.on_axis.1) (let w = f.within in omega arith);
      ahead = ahead;
      none_between = λ d i part some lt here cov axis.
          f.none_nearer (f.distance - d) i (omega arith) (omega arith) (record {
            part = part;
            is_i = here;
            covers = subst (λ c. Covers part c)
                (sym (ap (λ e. steps (f.distance - d) (opposite e) exit.cell) (sym same_dir)
                ∙ seen_back f.piece.part.dir (f.distance - d) d f.distance f.piece.part.cell exit.cell (omega arith) ahead))
                cov;
            on_axis = subst (λ t. IsPieceOn t exit.dir part) f.piece.on_axis.1
                (subst (λ e. IsPieceOn f.piece.part.tier e part) same_dir axis);
          });
    }

-- the first piece toward the far end, of the far end's kind and the part's direction
pub record Meets (parts : List Part) (part : Part) (toward : Dir) (kind : Kind) (j : ℕ) : Type 0 where
  pub first : IsFirstPiece parts part toward j
  pub is_kind : first.piece.part.kind ≡ kind
  pub same_dir : first.piece.part.dir ≡ part.dir

-- the piece that is met is the other end
paired_if_met : (parts : List Part) (part : Part) (i j : ℕ) (toward : Dir) (kind : Kind) → HasPart parts i part → IsFarEnd part toward kind
    → Meets parts part toward kind j → ArePaired parts i j
paired_if_met parts part i j toward kind here (inl far) m =
    let n = subst (λ k. Meets parts part part.dir k j) far.2 (subst (λ d. Meets parts part d kind j) far.1 m) in
    inl (ahead_pair parts i j part here far.0 n.first n.is_kind n.same_dir)
paired_if_met parts part i j toward kind here (inr far) m =
    let n = subst (λ k. Meets parts part (opposite part.dir) k j) far.2 (subst (λ d. Meets parts part d kind j) far.1 m) in
    inr (back_pair parts j i part here far.0 n.first n.is_kind n.same_dir)

met_ahead : (parts : List Part) (part : Part) (i j : ℕ) → HasPart parts i part → Pairs parts i j → Meets parts part part.dir Exit j
unfolding ahead_first
met_ahead parts part i j here p =
    subst (λ q. Meets parts q q.dir Exit j) (same_part parts i p.entrance part p.is_a here)
    (record { first = ahead_first parts i j p; is_kind = p.leaves; same_dir = p.same_dir })

met_back : (parts : List Part) (part : Part) (i j : ℕ) → HasPart parts i part → Pairs parts j i → Meets parts part (opposite part.dir) Entrance j
unfolding back_first
met_back parts part i j here p =
    subst (λ q. Meets parts q (opposite q.dir) Entrance j) (same_part parts i p.exit part p.is_b here)
    (record { first = back_first parts j i p; is_kind = p.enters; same_dir = sym p.same_dir })

-- the other end is met
met_if_paired : (parts : List Part) (part : Part) (i j : ℕ) (toward : Dir) (kind : Kind) → HasPart parts i part → IsFarEnd part toward kind
    → ArePaired parts i j → Meets parts part toward kind j
met_if_paired parts part i j toward kind here (inl far) (inl p) =
    subst (λ k. Meets parts part toward k j) (sym far.2) (subst (λ d. Meets parts part d Exit j) (sym far.1) (met_ahead parts part i j here p))
met_if_paired parts part i j toward kind here (inr far) (inr p) =
    subst (λ k. Meets parts part toward k j) (sym far.2) (subst (λ d. Meets parts part d Entrance j) (sym far.1) (met_back parts part i j here p))
met_if_paired parts part i j toward kind here (inl far) (inr p) =
    absurd (let a = far.0 in let b = p.leaves in let c = ap (λ q. q.kind) (same_part parts i p.exit part p.is_b here) in cc)
met_if_paired parts part i j toward kind here (inr far) (inl p) =
    absurd (let a = far.0 in let b = p.enters in let c = ap (λ q. q.kind) (same_part parts i p.entrance part p.is_a here) in cc)

-- an end of a pair is an underground piece
pub piece_if_paired : (parts : List Part) (i j : ℕ) → ArePaired parts i j → IsPieceAt parts i
piece_if_paired parts i j (inl p) = (p.entrance, p.is_a, inl p.enters)
piece_if_paired parts i j (inr p) = (p.exit, p.is_b, inr p.leaves)

-- the part at the cell is a piece of the tier and axis
pub piece_there : (parts : List Part) (tier : Tier) (dir : Dir) (cell : Cell) (i : ℕ) (part : Part) → HasPart parts i part → IsAt parts i cell
    → IsPieceOn tier dir part → IsPieceThere parts tier dir cell i
piece_there parts tier dir cell i part here at axis =
    record { part = part; is_i = here; covers = covers_at parts i part cell here at; on_axis = axis }

-- a piece that is there is at the cell
pub at_if_there : (parts : List Part) (tier : Tier) (dir : Dir) (cell : Cell) (i : ℕ) → IsPieceThere parts tier dir cell i → IsAt parts i cell
at_if_there parts tier dir cell i there = record { part = there.part; is_i = there.is_i; covers = there.covers }

-- the part at the cell is no piece of the tier and axis, and there is no other
pub no_piece_there : (parts : List Part) (tier : Tier) (dir : Dir) (cell : Cell) (i : ℕ) (part : Part) → IsWellPlaced parts
    → HasPart parts i part → IsAt parts i cell → (IsPieceOn tier dir part → ⊥) → (j : ℕ) → IsPieceThere parts tier dir cell j → ⊥
no_piece_there parts tier dir cell i part placed here at off j there =
    let same : i ≡ j = one_there parts placed i j cell at (at_if_there parts tier dir cell j there) in
    off (subst (λ p. IsPieceOn tier dir p)
    (same_part parts j there.part part there.is_i (subst (λ k. HasPart parts k part) same here)) there.on_axis)

-- one distance further
pub none_more : (parts : List Part) (from : Part) (toward : Dir) (n : ℕ) → NoneNearer parts from toward n
    → ((i : ℕ) → IsPieceThere parts from.tier from.dir (steps n toward from.cell) i → ⊥) → NoneNearer parts from toward (n + 1)
none_more parts from toward n none here d i some lt there =
    ⊎_elim (λ below. none d i some below there)
    (λ above. let same : d ≡ n = omega arith in here i (subst (λ k. IsPieceThere parts from.tier from.dir (steps k toward from.cell) i) same there))
    (cases_lt d n)

-- a first piece has an index of the list
pub within_first : (parts : List Part) (from : Part) (toward : Dir) (i : ℕ) → IsFirstPiece parts from toward i → i < length parts
within_first parts from toward i f = slice_get_within parts i f.piece.part f.piece.is_i

-- where no piece is within reach there is no pair
pub none_if_alone : (parts : List Part) (i : ℕ) (part : Part) (toward : Dir) (kind : Kind) → HasPart parts i part → IsFarEnd part toward kind
    → NoneNearer parts part toward (reach_of part.tier + 2) → (j : ℕ) → (None ≡ Some j) ↔ ArePaired parts i j
none_if_alone parts i part toward kind here far none j = (
  λ e. absurd (none-some j e),
  λ p. absurd (none_first parts part toward j none (met_if_paired parts part i j toward kind here far p).first),
)

meets : (parts : List Part) (part : Part) (toward : Dir) (kind : Kind) (j : ℕ) (other : Part) → HasPart parts j other
    → IsFirstPiece parts part toward j → other.kind ≡ kind → other.dir ≡ part.dir → Meets parts part toward kind j
meets parts part toward kind j other there f is_kind same_dir =
    let same : other ≡ f.piece.part = same_part parts j other f.piece.part there f.piece.is_i in
    record { first = f; is_kind = subst (λ q. q.kind ≡ kind) same is_kind; same_dir = subst (λ q. q.dir ≡ part.dir) same same_dir }

-- the first piece is the other end where it is alike
pub some_if_alike : (parts : List Part) (i : ℕ) (part : Part) (toward : Dir) (kind : Kind) (j : ℕ) (other : Part) → IsWellPlaced parts → HasPart parts i part
    → IsFarEnd part toward kind → HasPart parts j other → IsFirstPiece parts part toward j → IsEndFor other kind part
    → (k : ℕ) → (Some j ≡ Some k) ↔ ArePaired parts i k
some_if_alike parts i part toward kind j other placed here far there f alike k = (
  λ e. subst (λ n. ArePaired parts i n) (same_Some j k e)
      (paired_if_met parts part i j toward kind here far (meets parts part toward kind j other there f alike.0 alike.1)),
  λ p. ap Some (one_first parts part toward placed j k f (met_if_paired parts part i k toward kind here far p).first),
)

-- the first piece is no other end where it is not alike
pub none_if_unlike : (parts : List Part) (i : ℕ) (part : Part) (toward : Dir) (kind : Kind) (j : ℕ) (other : Part) → IsWellPlaced parts → HasPart parts i part
    → IsFarEnd part toward kind → HasPart parts j other → IsFirstPiece parts part toward j → (IsEndFor other kind part → ⊥)
    → (k : ℕ) → (None ≡ Some k) ↔ ArePaired parts i k
none_if_unlike parts i part toward kind j other placed here far there f unlike k = (
  λ e. absurd (none-some k e),
  λ p. let m = met_if_paired parts part i k toward kind here far p in
      let same : j ≡ k = one_first parts part toward placed j k f m.first in
      let is_other : m.first.piece.part ≡ other =
      same_part parts k m.first.piece.part other m.first.piece.is_i (subst (λ n. HasPart parts n other) same there) in
      absurd (unlike (subst (λ q. q.kind ≡ kind) is_other m.is_kind, subst (λ q. q.dir ≡ part.dir) is_other m.same_dir)),
)
