-- Each fact of a request stands at its variable in a list of all facts.
use Rattle.std.proofs.Common.{◌≡◌, ◌⊎◌, inl, inr, ℕ, zero, suc, ◌<◌, ◌+◌, ◌-◌, ◌*◌, ℤ, pos, negsuc, Bool, true, false, cond, not, ltb, List, [], ◌∷◌, length, map, get_or, reverse, refl, sym, ◌∙◌, ap, subst, arith}
use Rattle.std.specs.List.{Contains, flat_map, range_with_len, position_or_len}
use Rattle.std.specs.Prelude.{unsigned_abs, slice_index, ◌<ℤ◌, ◌≤ℤ◌}
use Rattle.std.proofs.lemmas.Bool.{false≢true}
use Rattle.std.proofs.lemmas.Int.{ints}
use Rattle.std.proofs.lemmas.List.{get_or-reverse, get_or_default, length-reverse}
use Rattle.bt_parts.specs.declared.part.Cell.{Cell}
use Rattle.bt_parts.specs.declared.part.Dir.{Dir}
use Rattle.bt_parts.specs.declared.part.Dir.TheVariants.{North, East, South, West}
use Rattle.bt_parts.specs.declared.part.Rect.{Rect}
use Rattle.bt_parts.specs.Cells.{cell_at}
use Rattle.bt_model.proofs.Sorted.{contains_none, contains_cases}
use Rattle.bt_facts.specs.declared.fact.Class.{Class}
use Rattle.bt_facts.specs.declared.fact.Content.{Content}
use Rattle.bt_facts.specs.declared.fact.Content.TheVariants.{Empty, Turned}
use Rattle.bt_facts.specs.declared.fact.Fact.{Fact}
use Rattle.bt_facts.specs.declared.fact.Fact.TheVariants as fact
use Rattle.bt_facts.specs.declared.fact.Half.TheVariants.{Lesser, Greater}
use Rattle.bt_facts.specs.declared.fact.Line.{Line}
use Rattle.bt_facts.specs.declared.fact.Line.TheVariants as line
use Rattle.bt_facts.specs.declared.fact.Shape.TheVariants as shape
use Rattle.bt_demands.specs.Classes.{same_class}
use Rattle.bt_rules.specs.Contents.{contents}
use Rattle.bt_facts.specs.Spots.{dirs, row_cells, cells_of}
use Rattle.bt_rules.proofs.Classed.{class_same, same_found}
use Rattle.bt_place.specs.Numbering.{Sizes, spot_of, dir_number, content_number, line_number, class_number, along, spots, spares, variables, variable_of}
use Rattle.bt_place.specs.Within.{IsSpot, IsNumbered}
use Rattle.bt_place.proofs.Counting.{get_map, length_map, length_range, get_range, length_flat, get_flat, group_within, joined, before_list, list_at, get_joined, length_joined}

-- the splitters in an order that the ranks tell
pub record AreRanks (z : Sizes) (order : List ℕ) : Type 0 where
  pub long : length order ≡ z.splitters
  pub within : (s : ℕ) → s < z.splitters → slice_index z.ranks s < z.splitters
  pub there : (s : ℕ) → s < z.splitters → get_or order (slice_index z.ranks s) 0 ≡ s

-- the item at a place below the length
pub record Found {X : Type 0} (xs : List X) (k : ℕ) (x : X) : Type 0 where
  pub within : k < length xs
  pub is : get_or xs k x ≡ x

found_map : {X Y : Type 0} (f : X → Y) (xs : List X) (k : ℕ) (x : X) → Found xs k x → Found (map f xs) k (f x)
found_map f xs k x h =
    let lt = h.within in let long = length_map f xs in
    record { within = omega (arith, long, lt); is = get_map f xs k (f x) x h.within ∙ ap f h.is }

found_range : (a n k : ℕ) → k < n → Found (range_with_len a n) k (a + k)
found_range a n k lt = let long = length_range a n in record { within = omega (arith, long, lt); is = get_range a n k (a + k) lt }

found_flat : {X Y : Type 0} (f : X → List Y) (xs : List X) (n i j : ℕ) (x : X) (y : Y) → ((w : X) → length (f w) ≡ n) → Found xs i x → Found (f x) j y → Found (flat_map f xs) (i * n + j) y
found_flat f xs n i j x y each h k =
    let lx = h.within in let ly = k.within in let e = each x in let long = length_flat f xs n each in
    let less = group_within i j (length xs) n lx (omega (arith, ly, e)) in
    record {
      within = omega (arith, long, less);
      is = get_flat f xs n i j y x each h.within (omega (arith, ly, e)) ∙ ap (λ w. get_or (f w) j y) h.is ∙ k.is;
    }

found_at : {X : Type 0} (xs : List X) (j k : ℕ) (x : X) → j ≡ k → Found xs j x → Found xs k x
found_at xs j k x e h = subst (λ n. Found xs n x) e h

found_reverse : {X : Type 0} (xs : List X) (n k : ℕ) (x : X) → length xs ≡ n → Found xs k x → Found (reverse xs) (n - 1 - k) x
found_reverse xs n k x long h =
    let lt = h.within in let same : length (reverse xs) ≡ length xs = length-reverse xs in
    record {
      within = omega (arith, lt, long, same);
      is = get_or-reverse xs (n - 1 - k) x (omega (arith, lt, long)) ∙ ap (λ i. get_or xs i x) (let z : length xs - 1 - (n - 1 - k) ≡ k = omega (arith, lt, long) in z) ∙ h.is;
    }

found_dir : (dir : Dir) → Found dirs (dir_number dir) dir
found_dir North = record { within = omega arith; is = refl }
found_dir East = record { within = omega arith; is = refl }
found_dir South = record { within = omega arith; is = refl }
found_dir West = record { within = omega arith; is = refl }

-- the row with this number
pub line_at : ℕ → Line
line_at zero = line.InputsEast
line_at (suc zero) = line.InputsSouth
line_at (suc (suc zero)) = line.OutputsEast
line_at (suc (suc (suc n))) = line.OutputsSouth

line_back : (l : Line) → line_at (line_number l) ≡ l
unfolding line_at
line_back line.InputsEast = refl
line_back line.InputsSouth = refl
line_back line.OutputsEast = refl
line_back line.OutputsSouth = refl

found_content : (content : Content) → Found contents (content_number content) content
found_content Empty = record { within = omega arith; is = refl }
found_content (Turned shape.Belt North) = record { within = omega arith; is = refl }
found_content (Turned shape.Belt East) = record { within = omega arith; is = refl }
found_content (Turned shape.Belt South) = record { within = omega arith; is = refl }
found_content (Turned shape.Belt West) = record { within = omega arith; is = refl }
found_content (Turned shape.Entrance North) = record { within = omega arith; is = refl }
found_content (Turned shape.Entrance East) = record { within = omega arith; is = refl }
found_content (Turned shape.Entrance South) = record { within = omega arith; is = refl }
found_content (Turned shape.Entrance West) = record { within = omega arith; is = refl }
found_content (Turned shape.Exit North) = record { within = omega arith; is = refl }
found_content (Turned shape.Exit East) = record { within = omega arith; is = refl }
found_content (Turned shape.Exit South) = record { within = omega arith; is = refl }
found_content (Turned shape.Exit West) = record { within = omega arith; is = refl }
found_content (Turned (shape.Half Lesser) North) = record { within = omega arith; is = refl }
found_content (Turned (shape.Half Lesser) East) = record { within = omega arith; is = refl }
found_content (Turned (shape.Half Lesser) South) = record { within = omega arith; is = refl }
found_content (Turned (shape.Half Lesser) West) = record { within = omega arith; is = refl }
found_content (Turned (shape.Half Greater) North) = record { within = omega arith; is = refl }
found_content (Turned (shape.Half Greater) East) = record { within = omega arith; is = refl }
found_content (Turned (shape.Half Greater) South) = record { within = omega arith; is = refl }
found_content (Turned (shape.Half Greater) West) = record { within = omega arith; is = refl }

-- a class at its place
found_class : (xs : List Class) (k : Class) → Contains xs k → Found xs (position_or_len (same_class k) xs) k
found_class [] k h = absurd (contains_none k h)
found_class (x ∷ xs) k h = by (same_class k x) refl (contains_cases x xs k h) (found_class xs k)
  where
    by : (b : Bool) → same_class k x ≡ b → (k ≡ x) ⊎ Contains xs k → (Contains xs k → Found xs (position_or_len (same_class k) xs) k)
        → Found (x ∷ xs) (cond (not b) (1 + position_or_len (same_class k) xs) 0) k
    by true t h rest = record { within = omega arith; is = sym (class_same k x t) }
    by false t (inl e) rest = absurd (false≢true (sym t ∙ same_found k x e))
    by false t (inr h) rest =
        let found = rest h in
        let lt = found.within in
        record {
          within = omega (arith, lt);
          is = ap (λ n. get_or (x ∷ xs) n k) (let z : 1 + position_or_len (same_class k) xs ≡ suc (position_or_len (same_class k) xs) = omega arith in z) ∙ found.is;
        }

-- what has a place among the classes is one of them
pub class_there : (xs : List Class) (k : Class) → position_or_len (same_class k) xs < length xs → Contains xs k
class_there [] k lt = absurd (omega (arith, lt))
class_there (x ∷ xs) k lt = by (same_class k x) refl lt (class_there xs k)
  where
    by : (b : Bool) → same_class k x ≡ b → cond (not b) (1 + position_or_len (same_class k) xs) 0 < length (x ∷ xs)
        → (position_or_len (same_class k) xs < length xs → Contains xs k) → Contains (x ∷ xs) k
    by true t lt rest = (0, omega arith, sym (class_same k x t))
    by false t lt rest = let more = rest (omega (arith, lt)) in let within = more.1 in (suc more.0, omega (arith, within), more.2)

pub class_placed : (xs : List Class) (k : Class) → Contains xs k → position_or_len (same_class k) xs < length xs
class_placed xs k h = (found_class xs k h).within

module _ (z : Sizes) where
  abbrev pub rect : Rect
  rect = record { width = z.width; height = z.height }

  natural : (a : ℤ) → pos 0 ≤ℤ a → pos (unsigned_abs a) ≡ a
  natural (pos n) h = refl
  natural (negsuc n) h = absurd (omega (arith, ints))

  below : (a : ℤ) (n : ℕ) → pos 0 ≤ℤ a → a <ℤ pos n → unsigned_abs a < n
  below (pos m) n h lt = omega (arith, ints)
  below (negsuc m) n h lt = absurd (omega (arith, ints))

  same_spot : (c : Cell) → IsSpot z c → cell_at (unsigned_abs c.x) (unsigned_abs c.y) ≡ c
  same_spot c h = ap (λ x. record { x = x; y = pos (unsigned_abs c.y) }) (natural c.x h.0) ∙ ap (λ y. record { x = c.x; y = y }) (natural c.y h.2)

  pub found_cell : (c : Cell) → IsSpot z c → Found (cells_of rect) (spot_of z c) c
  found_cell c h =
      let x = unsigned_abs c.x in let y = unsigned_abs c.y in
      subst (Found (cells_of rect) (spot_of z c)) (same_spot c h)
      (found_flat (row_cells rect) (range_with_len 0 z.height) z.width y x y (cell_at x y) (λ w. length_map (λ v. cell_at v w) (range_with_len 0 z.width) ∙ length_range 0 z.width)
      (found_at (range_with_len 0 z.height) y y y refl (subst (Found (range_with_len 0 z.height) y) (let e : 0 + y ≡ y = omega arith in e) (found_range 0 z.height y (below c.y z.height h.2 h.3))))
      (found_map (λ v. cell_at v y) (range_with_len 0 z.width) x x
      (subst (Found (range_with_len 0 z.width) x) (let e : 0 + x ≡ x = omega arith in e) (found_range 0 z.width x (below c.x z.width h.0 h.1)))))

  -- the cells along the longer side
  abbrev pub along_cells : List Cell
  along_cells = cond (ltb z.height z.width) (cells_of rect) (flat_map (λ x. map (cell_at x) (range_with_len 0 z.height)) (range_with_len 0 z.width))

  pub found_along : (c : Cell) → IsSpot z c → Found along_cells (along z c) c
  found_along c h = by (ltb z.height z.width)
    where
      x : ℕ
      x = unsigned_abs c.x

      y : ℕ
      y = unsigned_abs c.y

      by : (b : Bool) → Found (cond b (cells_of rect) (flat_map (λ x. map (cell_at x) (range_with_len 0 z.height)) (range_with_len 0 z.width)))
          (cond b (unsigned_abs c.y * z.width + unsigned_abs c.x) (unsigned_abs c.x * z.height + unsigned_abs c.y)) c
      by true = found_cell c h
      by false = subst (Found (flat_map (λ x. map (cell_at x) (range_with_len 0 z.height)) (range_with_len 0 z.width)) (unsigned_abs c.x * z.height + unsigned_abs c.y)) (same_spot c h)
          (found_flat (λ x. map (cell_at x) (range_with_len 0 z.height)) (range_with_len 0 z.width) z.height (unsigned_abs c.x) (unsigned_abs c.y) (unsigned_abs c.x) (cell_at (unsigned_abs c.x) (unsigned_abs c.y))
          (λ w. length_map (cell_at w) (range_with_len 0 z.height) ∙ length_range 0 z.height)
          (subst (Found (range_with_len 0 z.width) (unsigned_abs c.x)) (let e : 0 + unsigned_abs c.x ≡ unsigned_abs c.x = omega arith in e) (found_range 0 z.width (unsigned_abs c.x) (below c.x z.width h.0 h.1)))
          (found_map (cell_at (unsigned_abs c.x)) (range_with_len 0 z.height) (unsigned_abs c.y) (unsigned_abs c.y)
          (subst (Found (range_with_len 0 z.height) (unsigned_abs c.y)) (let e : 0 + unsigned_abs c.y ≡ unsigned_abs c.y = omega arith in e) (found_range 0 z.height (unsigned_abs c.y) (below c.y z.height h.2 h.3)))))

  pub length_cells : length (cells_of rect) ≡ spots z
  length_cells =
      let rows = length_flat (row_cells rect) (range_with_len 0 z.height) z.width (λ w. length_map (λ v. cell_at v w) (range_with_len 0 z.width) ∙ length_range 0 z.width) in
      let high = length_range 0 z.height in
      rows ∙ ap (λ n. n * z.width) high ∙ (let e : z.height * z.width ≡ z.width * z.height = omega arith in e)

  pub length_along : length along_cells ≡ spots z
  length_along = by (ltb z.height z.width)
    where
      columns : length (flat_map (λ x. map (cell_at x) (range_with_len 0 z.height)) (range_with_len 0 z.width)) ≡ spots z
      columns = length_flat (λ x. map (cell_at x) (range_with_len 0 z.height)) (range_with_len 0 z.width) z.height (λ w. length_map (cell_at w) (range_with_len 0 z.height) ∙ length_range 0 z.height)
          ∙ ap (λ n. n * z.height) (length_range 0 z.width)

      by : (b : Bool) → length (cond b (cells_of rect) (flat_map (λ x. map (cell_at x) (range_with_len 0 z.height)) (range_with_len 0 z.width))) ≡ spots z
      by true = length_cells
      by false = columns

  -- the facts of each cell
  abbrev pub by_cell : (Cell → List Fact) → List Fact
  by_cell f = flat_map f (cells_of rect)

  -- the facts of each splitter
  abbrev pub by_splitter : (ℕ → List Fact) → List Fact
  by_splitter f = flat_map f (range_with_len 0 z.splitters)

  -- the pairs that may begin on a cell
  abbrev pub pairs_on : Cell → List Fact
  pairs_on c = flat_map (λ d. map (fact.Pair c d) (range_with_len 1 z.distances)) dirs

  -- all facts, block by block
  abbrev pub blocks : List ℕ → List (List Fact)
  blocks order = by_cell (λ c. map (fact.Carries c) z.classes)
      ∷ map fact.HalfOn (cells_of rect)
      ∷ map fact.BeltOn (cells_of rect)
      ∷ map fact.Begins (cells_of rect)
      ∷ by_cell (λ c. map (fact.Starts c) (range_with_len 0 z.inputs))
      ∷ by_cell (λ c. map (fact.Stops c) (range_with_len 0 z.stops))
      ∷ by_cell (λ c. map (λ j. fact.Lies c (line_at j)) (range_with_len 0 z.lines))
      ∷ by_cell pairs_on
      ∷ by_cell (λ c. map (fact.Tunnel c) dirs)
      ∷ by_cell (λ c. map (fact.Goes c) dirs)
      ∷ by_splitter (λ s. map (fact.Column s) (range_with_len 0 z.width))
      ∷ by_splitter (λ s. map (fact.Row s) (range_with_len 0 z.height))
      ∷ by_splitter (λ s. map (fact.Points s) dirs)
      ∷ map fact.EntersLesser (range_with_len 0 z.splitters)
      ∷ map fact.LeavesLesser (range_with_len 0 z.splitters)
      ∷ flat_map (λ spare. map (fact.Held spare) (range_with_len 0 (z.halves))) (range_with_len 0 (spares z))
      ∷ flat_map (λ c. map (fact.Kind c) (reverse contents)) (reverse along_cells)
      ∷ flat_map (λ s. flat_map (λ c. map (fact.At s c) dirs) (reverse along_cells)) (reverse order)
      ∷ []

  cell_length : (f : Cell → List Fact) (n : ℕ) → ((c : Cell) → length (f c) ≡ n) → length (by_cell f) ≡ spots z * n
  cell_length f n each = length_flat f (cells_of rect) n each ∙ ap (λ k. k * n) length_cells

  splitter_length : (f : ℕ → List Fact) (n : ℕ) → ((s : ℕ) → length (f s) ≡ n) → length (by_splitter f) ≡ z.splitters * n
  splitter_length f n each = length_flat f (range_with_len 0 z.splitters) n each ∙ ap (λ k. k * n) (length_range 0 z.splitters)

  ranged : {X : Type 0} (f : ℕ → X) (a n : ℕ) → length (map f (range_with_len a n)) ≡ n
  ranged f a n = length_map f (range_with_len a n) ∙ length_range a n

  pairs_length : (c : Cell) → length (pairs_on c) ≡ 4 * z.distances
  pairs_length c = length_flat (λ d. map (fact.Pair c d) (range_with_len 1 z.distances)) dirs z.distances (λ d. ranged (fact.Pair c d) 1 z.distances)

  found_ranged : {X : Type 0} (f : ℕ → X) (a n k v : ℕ) → k < n → a + k ≡ v → Found (map f (range_with_len a n)) k (f v)
  found_ranged f a n k v lt e = subst (λ w. Found (map f (range_with_len a n)) k (f w)) e (found_map f (range_with_len a n) k (a + k) (found_range a n k lt))

  in_cell : (f : Cell → List Fact) (n j : ℕ) (c : Cell) (x : Fact) → ((w : Cell) → length (f w) ≡ n) → IsSpot z c → Found (f c) j x → Found (by_cell f) (spot_of z c * n + j) x
  in_cell f n j c x each h k = found_flat f (cells_of rect) n (spot_of z c) j c x each (found_cell c h) k

  in_splitter : (f : ℕ → List Fact) (n s j : ℕ) (x : Fact) → ((w : ℕ) → length (f w) ≡ n) → s < z.splitters → Found (f s) j x → Found (by_splitter f) (s * n + j) x
  in_splitter f n s j x each lt k = found_flat f (range_with_len 0 z.splitters) n s j s x each
      (subst (Found (range_with_len 0 z.splitters) s) (let e : 0 + s ≡ s = omega arith in e) (found_range 0 z.splitters s lt)) k

  in_pairs : (c : Cell) (dir : Dir) (j k : ℕ) → IsSpot z c → j < z.distances → 1 + j ≡ k → Found (by_cell pairs_on) ((spot_of z c * 4 + dir_number dir) * z.distances + j) (fact.Pair c dir k)
  in_pairs c dir j k h lt e =
      found_at (by_cell pairs_on) (spot_of z c * (4 * z.distances) + (dir_number dir * z.distances + j)) ((spot_of z c * 4 + dir_number dir) * z.distances + j) (fact.Pair c dir k)
      (omega arith)
      (in_cell pairs_on (4 * z.distances) (dir_number dir * z.distances + j) c (fact.Pair c dir k) pairs_length h
      (found_flat (λ d. map (fact.Pair c d) (range_with_len 1 z.distances)) dirs z.distances (dir_number dir) j dir (fact.Pair c dir k) (λ d. ranged (fact.Pair c d) 1 z.distances)
      (found_dir dir) (found_ranged (fact.Pair c dir) 1 z.distances j k lt e)))

  -- where a fact stands in the blocks
  pub record IsIn (order : List ℕ) (x : Fact) : Type 0 where
    pub block : ℕ
    pub place : ℕ
    pub number : variable_of z x ≡ before_list (blocks order) block + place
    pub there : Found (list_at (blocks order) block) place x

  module _ (order : List ℕ) (ranks : AreRanks z order) where
    -- the lengths of the blocks
    pub record Lengths : Type 0 where
      pub carried : length (list_at (blocks order) 0) ≡ spots z * length z.classes
      pub halves_on : length (list_at (blocks order) 1) ≡ spots z
      pub belts_on : length (list_at (blocks order) 2) ≡ spots z
      pub begun : length (list_at (blocks order) 3) ≡ spots z
      pub started : length (list_at (blocks order) 4) ≡ spots z * z.inputs
      pub stopped : length (list_at (blocks order) 5) ≡ spots z * z.stops
      pub lying : length (list_at (blocks order) 6) ≡ spots z * z.lines
      pub paired : length (list_at (blocks order) 7) ≡ spots z * (4 * z.distances)
      pub tunnels : length (list_at (blocks order) 8) ≡ spots z * 4
      pub goings : length (list_at (blocks order) 9) ≡ spots z * 4
      pub columns : length (list_at (blocks order) 10) ≡ z.splitters * z.width
      pub rows : length (list_at (blocks order) 11) ≡ z.splitters * z.height
      pub points : length (list_at (blocks order) 12) ≡ z.splitters * 4
      pub entering : length (list_at (blocks order) 13) ≡ z.splitters
      pub leaving : length (list_at (blocks order) 14) ≡ z.splitters
      pub held : length (list_at (blocks order) 15) ≡ spares z * z.halves
      pub kinds : length (list_at (blocks order) 16) ≡ spots z * 21
      pub places : length (list_at (blocks order) 17) ≡ z.splitters * (spots z * 4)

    lengths : Lengths
    lengths = record {
      carried = cell_length (λ c. map (fact.Carries c) z.classes) (length z.classes) (λ c. length_map (fact.Carries c) z.classes);
      halves_on = length_map fact.HalfOn (cells_of rect) ∙ length_cells;
      belts_on = length_map fact.BeltOn (cells_of rect) ∙ length_cells;
      begun = length_map fact.Begins (cells_of rect) ∙ length_cells;
      started = cell_length (λ c. map (fact.Starts c) (range_with_len 0 z.inputs)) z.inputs (λ c. ranged (fact.Starts c) 0 z.inputs);
      stopped = cell_length (λ c. map (fact.Stops c) (range_with_len 0 z.stops)) z.stops (λ c. ranged (fact.Stops c) 0 z.stops);
      lying = cell_length (λ c. map (λ j. fact.Lies c (line_at j)) (range_with_len 0 z.lines)) z.lines (λ c. ranged (λ j. fact.Lies c (line_at j)) 0 z.lines);
      paired = cell_length pairs_on (4 * z.distances) pairs_length;
      tunnels = cell_length (λ c. map (fact.Tunnel c) dirs) 4 (λ c. refl);
      goings = cell_length (λ c. map (fact.Goes c) dirs) 4 (λ c. refl);
      columns = splitter_length (λ s. map (fact.Column s) (range_with_len 0 z.width)) z.width (λ s. ranged (fact.Column s) 0 z.width);
      rows = splitter_length (λ s. map (fact.Row s) (range_with_len 0 z.height)) z.height (λ s. ranged (fact.Row s) 0 z.height);
      points = splitter_length (λ s. map (fact.Points s) dirs) 4 (λ s. refl);
      entering = ranged fact.EntersLesser 0 z.splitters;
      leaving = ranged fact.LeavesLesser 0 z.splitters;
      held = length_flat (λ spare. map (fact.Held spare) (range_with_len 0 (z.halves))) (range_with_len 0 (spares z)) (z.halves) (λ spare. ranged (fact.Held spare) 0 (z.halves))
          ∙ ap (λ n. n * z.halves) (length_range 0 (spares z));
      kinds = length_flat (λ c. map (fact.Kind c) (reverse contents)) (reverse along_cells) 21 (λ c. refl) ∙ ap (λ n. n * 21) (length-reverse along_cells ∙ length_along);
      places = length_flat (λ s. flat_map (λ c. map (fact.At s c) dirs) (reverse along_cells)) (reverse order) (spots z * 4)
          (λ s. length_flat (λ c. map (fact.At s c) dirs) (reverse along_cells) 4 (λ c. refl) ∙ ap (λ n. n * 4) (length-reverse along_cells ∙ length_along))
          ∙ ap (λ n. n * (spots z * 4)) (length-reverse order ∙ ranks.long);
    }

    -- there are as many variables as facts
    pub blocks_long : length (joined (blocks order)) ≡ variables z
    blocks_long =
        let l = lengths in
        let e : before_list (blocks order) 18 ≡ variables z =
        omega (arith, l.carried, l.halves_on, l.belts_on, l.begun, l.started, l.stopped, l.lying, l.paired, l.tunnels, l.goings, l.columns, l.rows, l.points, l.entering, l.leaving, l.held, l.kinds, l.places) in
        length_joined (blocks order) ∙ e

    stands : (x : Fact) → IsNumbered z x → IsIn order x
    stands (fact.Carries c k) h = record {
      block = 0;
      place = spot_of z c * length z.classes + class_number z k;
      number = omega arith;
      there = in_cell (λ c. map (fact.Carries c) z.classes) (length z.classes) (class_number z k) c (fact.Carries c k) (λ c. length_map (fact.Carries c) z.classes) h.0 (found_map (fact.Carries c) z.classes (class_number z k) k (found_class z.classes k h.1));
    }
    stands (fact.HalfOn c) h = record {
      block = 1;
      place = spot_of z c;
      number = let l = lengths in omega (arith, l.carried);
      there = found_map fact.HalfOn (cells_of rect) (spot_of z c) c (found_cell c h);
    }
    stands (fact.BeltOn c) h = record {
      block = 2;
      place = spot_of z c;
      number = let l = lengths in omega (arith, l.carried, l.halves_on);
      there = found_map fact.BeltOn (cells_of rect) (spot_of z c) c (found_cell c h);
    }
    stands (fact.Begins c) h = record {
      block = 3;
      place = spot_of z c;
      number = let l = lengths in omega (arith, l.carried, l.halves_on, l.belts_on);
      there = found_map fact.Begins (cells_of rect) (spot_of z c) c (found_cell c h);
    }
    stands (fact.Starts c i) h = record {
      block = 4;
      place = spot_of z c * z.inputs + i;
      number = let l = lengths in omega (arith, l.carried, l.halves_on, l.belts_on, l.begun);
      there = in_cell (λ c. map (fact.Starts c) (range_with_len 0 z.inputs)) z.inputs i c (fact.Starts c i) (λ c. ranged (fact.Starts c) 0 z.inputs) h.0 (found_ranged (fact.Starts c) 0 z.inputs i i h.1 (omega arith));
    }
    stands (fact.Stops c o) h = record {
      block = 5;
      place = spot_of z c * z.stops + o;
      number = let l = lengths in omega (arith, l.carried, l.halves_on, l.belts_on, l.begun, l.started);
      there = in_cell (λ c. map (fact.Stops c) (range_with_len 0 z.stops)) z.stops o c (fact.Stops c o) (λ c. ranged (fact.Stops c) 0 z.stops) h.0 (found_ranged (fact.Stops c) 0 z.stops o o h.1 (omega arith));
    }
    stands (fact.Lies c k) h = record {
      block = 6;
      place = spot_of z c * z.lines + line_number k;
      number = let l = lengths in omega (arith, l.carried, l.halves_on, l.belts_on, l.begun, l.started, l.stopped);
      there = in_cell (λ c. map (λ j. fact.Lies c (line_at j)) (range_with_len 0 z.lines)) z.lines (line_number k) c (fact.Lies c k) (λ c. ranged (λ j. fact.Lies c (line_at j)) 0 z.lines) h.0
          (subst (λ x. Found (map (λ j. fact.Lies c (line_at j)) (range_with_len 0 z.lines)) (line_number k) (fact.Lies c x)) (line_back k)
          (found_ranged (λ j. fact.Lies c (line_at j)) 0 z.lines (line_number k) (line_number k) h.1 (omega arith)));
    }
    stands (fact.Pair c dir k) h = record {
      block = 7;
      place = (spot_of z c * 4 + dir_number dir) * z.distances + (k - 1);
      number = let l = lengths in omega (arith, l.carried, l.halves_on, l.belts_on, l.begun, l.started, l.stopped, l.lying);
      there = let le = h.1.0 in let most = h.1.1 in in_pairs c dir (k - 1) k h.0 (omega (arith, le, most)) (omega (arith, le));
    }
    stands (fact.Tunnel c dir) h = record {
      block = 8;
      place = spot_of z c * 4 + dir_number dir;
      number = let l = lengths in omega (arith, l.carried, l.halves_on, l.belts_on, l.begun, l.started, l.stopped, l.lying, l.paired);
      there = in_cell (λ c. map (fact.Tunnel c) dirs) 4 (dir_number dir) c (fact.Tunnel c dir) (λ c. refl) h (found_map (fact.Tunnel c) dirs (dir_number dir) dir (found_dir dir));
    }
    stands (fact.Goes c dir) h = record {
      block = 9;
      place = spot_of z c * 4 + dir_number dir;
      number = let l = lengths in omega (arith, l.carried, l.halves_on, l.belts_on, l.begun, l.started, l.stopped, l.lying, l.paired, l.tunnels);
      there = in_cell (λ c. map (fact.Goes c) dirs) 4 (dir_number dir) c (fact.Goes c dir) (λ c. refl) h (found_map (fact.Goes c) dirs (dir_number dir) dir (found_dir dir));
    }
    stands (fact.Column s x) h = record {
      block = 10;
      place = s * z.width + x;
      number = let l = lengths in omega (arith, l.carried, l.halves_on, l.belts_on, l.begun, l.started, l.stopped, l.lying, l.paired, l.tunnels, l.goings);
      there = in_splitter (λ s. map (fact.Column s) (range_with_len 0 z.width)) z.width s x (fact.Column s x) (λ s. ranged (fact.Column s) 0 z.width) h.0 (found_ranged (fact.Column s) 0 z.width x x h.1 (omega arith));
    }
    stands (fact.Row s y) h = record {
      block = 11;
      place = s * z.height + y;
      number = let l = lengths in omega (arith, l.carried, l.halves_on, l.belts_on, l.begun, l.started, l.stopped, l.lying, l.paired, l.tunnels, l.goings, l.columns);
      there = in_splitter (λ s. map (fact.Row s) (range_with_len 0 z.height)) z.height s y (fact.Row s y) (λ s. ranged (fact.Row s) 0 z.height) h.0 (found_ranged (fact.Row s) 0 z.height y y h.1 (omega arith));
    }
    stands (fact.Points s dir) h = record {
      block = 12;
      place = s * 4 + dir_number dir;
      number = let l = lengths in omega (arith, l.carried, l.halves_on, l.belts_on, l.begun, l.started, l.stopped, l.lying, l.paired, l.tunnels, l.goings, l.columns, l.rows);
      there = in_splitter (λ s. map (fact.Points s) dirs) 4 s (dir_number dir) (fact.Points s dir) (λ s. refl) h (found_map (fact.Points s) dirs (dir_number dir) dir (found_dir dir));
    }
    stands (fact.EntersLesser s) h = record {
      block = 13;
      place = s;
      number = let l = lengths in omega (arith, l.carried, l.halves_on, l.belts_on, l.begun, l.started, l.stopped, l.lying, l.paired, l.tunnels, l.goings, l.columns, l.rows, l.points);
      there = found_ranged fact.EntersLesser 0 z.splitters s s h (omega arith);
    }
    stands (fact.LeavesLesser s) h = record {
      block = 14;
      place = s;
      number = let l = lengths in omega (arith, l.carried, l.halves_on, l.belts_on, l.begun, l.started, l.stopped, l.lying, l.paired, l.tunnels, l.goings, l.columns, l.rows, l.points, l.entering);
      there = found_ranged fact.LeavesLesser 0 z.splitters s s h (omega arith);
    }
    stands (fact.Held spare half) h = record {
      block = 15;
      place = spare * z.halves + half;
      number = let l = lengths in omega (arith, l.carried, l.halves_on, l.belts_on, l.begun, l.started, l.stopped, l.lying, l.paired, l.tunnels, l.goings, l.columns, l.rows, l.points, l.entering, l.leaving);
      there = found_flat (λ spare. map (fact.Held spare) (range_with_len 0 (z.halves))) (range_with_len 0 (spares z)) (z.halves) spare half spare (fact.Held spare half) (λ spare. ranged (fact.Held spare) 0 (z.halves))
          (found_at (range_with_len 0 (spares z)) spare spare spare refl (subst (Found (range_with_len 0 (spares z)) spare) (let e : 0 + spare ≡ spare = omega arith in e) (found_range 0 (spares z) spare (let few = h.0 in omega (arith, few)))))
          (found_ranged (fact.Held spare) 0 (z.halves) half half h.1 (omega arith));
    }
    stands (fact.Kind c content) h = record {
      block = 16;
      place = (spots z - 1 - along z c) * 21 + (20 - content_number content);
      number = let l = lengths in omega (arith, l.carried, l.halves_on, l.belts_on, l.begun, l.started, l.stopped, l.lying, l.paired, l.tunnels, l.goings, l.columns, l.rows, l.points, l.entering, l.leaving, l.held);
      there = found_flat (λ c. map (fact.Kind c) (reverse contents)) (reverse along_cells) 21 (spots z - 1 - along z c) (20 - content_number content) c (fact.Kind c content) (λ c. refl)
          (found_reverse along_cells (spots z) (along z c) c length_along (found_along c h))
          (found_map (fact.Kind c) (reverse contents) (20 - content_number content) content (found_reverse contents 21 (content_number content) content refl (found_content content)));
    }
    stands (fact.At s c dir) h =
        let rank = slice_index z.ranks s in
        let lt = ranks.within s h.0 in
        let long = ranks.long in
        let here : Found order rank s = record { within = omega (arith, lt, long); is = get_or_default order rank s 0 (omega (arith, lt, long)) ∙ ranks.there s h.0 } in
        record {
          block = 17;
          place = (z.splitters - 1 - rank) * (spots z * 4) + ((spots z - 1 - along z c) * 4 + dir_number dir);
          number = let l = lengths in omega (arith, l.carried, l.halves_on, l.belts_on, l.begun, l.started, l.stopped, l.lying, l.paired, l.tunnels, l.goings, l.columns, l.rows, l.points, l.entering, l.leaving, l.held, l.kinds);
          there = found_flat (λ s. flat_map (λ c. map (fact.At s c) dirs) (reverse along_cells)) (reverse order) (spots z * 4) (z.splitters - 1 - rank) ((spots z - 1 - along z c) * 4 + dir_number dir) s (fact.At s c dir)
              (λ s. length_flat (λ c. map (fact.At s c) dirs) (reverse along_cells) 4 (λ c. refl) ∙ ap (λ n. n * 4) (length-reverse along_cells ∙ length_along))
              (found_reverse order z.splitters rank s long here)
              (found_flat (λ c. map (fact.At s c) dirs) (reverse along_cells) 4 (spots z - 1 - along z c) (dir_number dir) c (fact.At s c dir) (λ c. refl)
              (found_reverse along_cells (spots z) (along z c) c length_along (found_along c h.1))
              (found_map (fact.At s c) dirs (dir_number dir) dir (found_dir dir)));
        }

    -- each fact stands at its variable
    pub fact_at : (x : Fact) → IsNumbered z x → (variable_of z x < variables z) × (get_or (joined (blocks order)) (variable_of z x) x ≡ x)
    fact_at x h =
        let at = stands x h in
        let found = get_joined (blocks order) at.block at.place x at.there.within in
        let lt = found.0 in let e = at.number in let all = blocks_long in
        (omega (arith, lt, e, all), ap (λ n. get_or (joined (blocks order)) n x) at.number ∙ found.1 ∙ at.there.is)
