-- What parts that lay a request by some names are like, one by one and as a whole.
use Rattle.std.proofs.Common.{◌≡◌, ◌↔◌, ℕ, ◌<◌, ◌≤◌, ℤ, pos, negsuc, ◌<ℤ◌, ◌≤ℤ◌, unsigned_abs, is_some, not, Bool, true, false, IsTrue, List, length, get_or, Option, Some, None, slice_get, refl, sym, ◌∙◌, subst, inl, inr, ⊎_elim, arith}
use Rattle.std.specs.Prelude.{Err}
use Rattle.std.specs.List.{All}
use Rattle.std.proofs.lemmas.Int.{ints}
use Rattle.std.proofs.lemmas.Bool.{false≢true}
use Rattle.std.proofs.lemmas.Option.{get_or_from_slice_get, none-some, same_Some, slice_get-get_or, slice_get_within}
use Rattle.std.proofs.lemmas.List.Elements.{All-contains, Contains-get_or}
use Rattle.std.proofs.lemmas.List.Sorted.{length_permutation}
use Rattle.bt_parts.specs.declared.part.Cell.{Cell}
use Rattle.bt_parts.specs.declared.part.Part.{Part}
use Rattle.bt_parts.specs.declared.part.Rect.{Rect}
use Rattle.bt_parts.specs.declared.part.Tier.{Tier}
use Rattle.bt_parts.specs.Cells.{IsGreaterHalf, IsInRange, IsInside}
use Rattle.bt_parts.specs.Layouts.{AreInRange, IsAt}
use Rattle.bt_recover.specs.Placing.{IsFirstOverlap}
use Rattle.bt_recover.specs.declared.grid.GridFault.TheVariants as grid
use Rattle.bt_net.specs.declared.network.Block.{Block}
use Rattle.bt_net.specs.declared.network.EndKind.{EndKind}
use Rattle.bt_net.specs.declared.network.EndKind.TheVariants.{Inputs, Outputs}
use Rattle.bt_net.specs.Network.{Network, IsNetwork}
use Rattle.bt_model.specs.Chains.{IsInput, IsOutput, IsSplitter, IsChain}
use Rattle.bt_model.specs.Laying.{Fits, end_count}
use Rattle.bt_model.specs.Requests.{LayoutRequest, IsGrid, blocked}
use Rattle.bt_model.specs.Shown.{Naming, ListsEach, IsEdgeOf, IsNumbered, Shows}
use Rattle.bt_model.proofs.Places.{zip_length}
use Rattle.bt_recover.specs.declared.fault.RecoverFault.{RecoverFault}
use Rattle.bt_recover.specs.declared.fault.RecoverFault.TheVariants.{Unpaired, SideLoad, Blocked, Ring, TooLarge, NoEnds, Memory}
use Rattle.bt_recover.specs.Recovered.{IsRecovered}
use Rattle.bt_layout_check.specs.Laid.{LaysBy}
use Rattle.bt_layout_check.specs.inner.Fitting.{IsFirstInside, IsFree, IsLastInside, LiesInside, SuitsAlone}
use Rattle.bt_layout_check.specs.inner.Rows.{count_of}
use Rattle.bt_layout_check.proofs.Listing.{each_rearranged}

-- what holds of all holds of the one at a place
all_at : {X : Type 0} (P : X → Type 0) (xs : List X) (i : ℕ) (x : X) → All P xs → slice_get xs i ≡ Some x → P x
all_at P xs i x all e = subst P (get_or_from_slice_get xs i x x e) (all i x (slice_get_within xs i x e))

-- a part lies inside where its one or two cells do
pub lies_two : (rect : Rect) (part : Part) (second : Option Cell) (greater : Cell) (b : Bool) → IsInside rect part.cell
    → ((c : Cell) → (second ≡ Some c) ↔ IsGreaterHalf part c) → second ≡ Some greater → (IsTrue b ↔ IsInside rect greater) → IsTrue b ↔ LiesInside rect part
lies_two rect part second greater b own is_second some tells = (
  λ t cell covers. ⊎_elim (λ e. subst (IsInside rect) (sym e) own)
      (λ half. subst (IsInside rect) (same_Some greater cell (sym some ∙ (is_second cell).1 half)) (tells.0 t)) covers,
  λ all. tells.1 (all greater (inr ((is_second greater).0 some))),
)

pub lies_one : (rect : Rect) (part : Part) (second : Option Cell) → IsInside rect part.cell → ((c : Cell) → (second ≡ Some c) ↔ IsGreaterHalf part c) → second ≡ None
    → IsTrue true ↔ LiesInside rect part
lies_one rect part second own is_second none = (
  λ t cell covers. ⊎_elim (λ e. subst (IsInside rect) (sym e) own) (λ half. absurd (none-some cell (sym none ∙ (is_second cell).1 half))) covers,
  λ all. refl,
)

-- cells inside are in range
small : (a : ℤ) (n : ℕ) → n ≤ 160 → pos 0 ≤ℤ a → a <ℤ pos n → unsigned_abs a ≤ 160
small (pos m) n few h lt = omega (arith, ints)
small (negsuc m) n few h lt = absurd (omega (arith, ints))

pub inside_in_range : (rect : Rect) → IsGrid rect → (c : Cell) → IsInside rect c → IsInRange c
inside_in_range rect is c h =
    let x = small c.x rect.width is.few_across h.0 h.1 in let y = small c.y rect.height is.few_down h.2 h.3 in (omega (arith, x), omega (arith, y))

pub suits_in_range : (rect : Rect) (tier : Tier) (parts : List Part) → IsGrid rect → All (SuitsAlone rect tier) parts → AreInRange parts
suits_in_range rect tier parts is suits i d lt = let part = get_or parts i d in inside_in_range rect is part.cell ((suits i d lt).0 part.cell (inl refl))

pub suits_of : (request : LayoutRequest) (parts : List Part) → Fits parts request → All (SuitsAlone request.rect request.tier) parts
suits_of request parts fits k d lt = (
  λ cell covers. fits.inside k cell (record { part = get_or parts k d; is_i = slice_get-get_or parts k d lt; covers = covers }),
  fits.one_tier k d lt,
)

-- what the test of the whole asks beside the parts one by one
fits_from : (parts : List Part) (request : LayoutRequest) (own : Naming) → All (SuitsAlone request.rect request.tier) parts → ListsEach (IsInput parts) own.inputs
    → ListsEach (IsOutput parts) own.outputs → All (IsFree parts) request.blocks → All (IsFirstInside request.rect parts) own.inputs
    → All (IsLastInside request.rect parts) own.outputs → Fits parts request
fits_from parts request own suits inputs outputs free first last = record {
  inside = λ i cell at. (all_at (SuitsAlone request.rect request.tier) parts i at.part suits at.is_i).0 cell at.covers;
  unblocked = λ i block there at. All-contains (IsFree parts) request.blocks block free there i at;
  one_tier = λ k d lt. (suits k d lt).1;
  inputs = λ i part input is_i. All-contains (IsFirstInside request.rect parts) own.inputs i first (inputs.all i input) part is_i;
  outputs = λ i part output is_i. All-contains (IsLastInside request.rect parts) own.outputs i last (outputs.all i output) part is_i;
}

free_of : (parts : List Part) (request : LayoutRequest) → Fits parts request → All (IsFree parts) request.blocks
free_of parts request fits k d lt i at = fits.unblocked i (get_or request.blocks k d) (Contains-get_or request.blocks k d lt) at

pub first_of : (parts : List Part) (request : LayoutRequest) (own : Naming) → ListsEach (IsInput parts) own.inputs → Fits parts request
    → All (IsFirstInside request.rect parts) own.inputs
first_of parts request own inputs fits k d lt part is_i inside =
    fits.inputs (get_or own.inputs k d) part (inputs.only (get_or own.inputs k d) (Contains-get_or own.inputs k d lt)) is_i inside

pub last_of : (parts : List Part) (request : LayoutRequest) (own : Naming) → ListsEach (IsOutput parts) own.outputs → Fits parts request
    → All (IsLastInside request.rect parts) own.outputs
last_of parts request own outputs fits k d lt part is_i inside =
    fits.outputs (get_or own.outputs k d) part (outputs.only (get_or own.outputs k d) (Contains-get_or own.outputs k d lt)) is_i inside

-- the parts of a kind have places in the list
pub inputs_within : (parts : List Part) (xs : List ℕ) → ListsEach (IsInput parts) xs → All (λ i. i < length parts) xs
inputs_within parts xs lists k d lt = let input = lists.only (get_or xs k d) (Contains-get_or xs k d lt) in slice_get_within parts (get_or xs k d) input.part input.is_i

pub outputs_within : (parts : List Part) (xs : List ℕ) → ListsEach (IsOutput parts) xs → All (λ i. i < length parts) xs
outputs_within parts xs lists k d lt = let output = lists.only (get_or xs k d) (Contains-get_or xs k d lt) in slice_get_within parts (get_or xs k d) output.part output.is_i

pub overlap_no_memory : (i j : ℕ) → grid.Overlap i j ≡ grid.Memory → ⊥
overlap_no_memory i j e = absurd (cc)

-- parts of which two share a cell lay nothing
pub overlapping_lays_not : (parts : List Part) (naming : Naming) (request : LayoutRequest) (first second : ℕ) → IsFirstOverlap parts first second → LaysBy parts naming request → ⊥
overlapping_lays_not parts naming request first second overlap lays = lays.shows.clean.well_placed first second overlap.earlier overlap.shared

-- the own network of a layout is as large as any that it shows
record IsAsLarge (m net : Network) : Type 0 where
  inputs : m.inputs ≡ net.inputs
  outputs : m.outputs ≡ net.outputs
  splitters : m.splitters ≡ net.splitters
  edges : length m.edges ≡ length net.edges

as_large : (parts : List Part) (m net : Network) (own naming : Naming) → IsNumbered parts m own → Shows parts net naming → IsAsLarge m net
as_large parts m net own naming h shows =
    let inputs = length_permutation own.inputs naming.inputs (each_rearranged (IsInput parts) own.inputs naming.inputs h.names.inputs shows.names.inputs) in
    let outputs = length_permutation own.outputs naming.outputs (each_rearranged (IsOutput parts) own.outputs naming.outputs h.names.outputs shows.names.outputs) in
    let splitters = length_permutation own.splitters naming.splitters (each_rearranged (IsSplitter parts) own.splitters naming.splitters h.names.splitters shows.names.splitters) in
    let chains = length_permutation h.chains shows.chains (each_rearranged (IsChain parts) h.chains shows.chains h.each_once shows.each_once) in
    let edges = length_permutation shows.edges net.edges shows.same in
    let ours = zip_length (IsEdgeOf parts own) h.chains m.edges h.named in
    let theirs = zip_length (IsEdgeOf parts naming) shows.chains shows.edges shows.named in
    record {
      inputs = h.names.input_count ∙ sym inputs ∙ sym shows.names.input_count;
      outputs = h.names.output_count ∙ sym outputs ∙ sym shows.names.output_count;
      splitters = h.names.splitter_count ∙ sym splitters ∙ sym shows.names.splitter_count;
      edges = sym ours ∙ sym chains ∙ theirs ∙ sym edges;
    }

-- a layout that is refused shows no network
pub refused_shows_not : (parts : List Part) (naming : Naming) (net : Network) (fault : RecoverFault) → IsNetwork net → IsRecovered parts (Err fault) → Shows parts net naming → ⊥
refused_shows_not parts naming net (Unpaired i) is h shows =
    let paired = shows.clean.paired i h.0.piece in h.0.alone paired.other paired.paired
refused_shows_not parts naming net (SideLoad i) is h shows = shows.clean.no_side_load i h.1.0
refused_shows_not parts naming net (Blocked i) is h shows = shows.clean.no_blocked i h.2.0
refused_shows_not parts naming net (Ring i) is h shows = shows.clean.no_ring i h.1.0
refused_shows_not parts naming net TooLarge is h shows =
    let same = as_large parts h.0 net h.1 naming h.2 shows in
    let i = same.inputs in let o = same.outputs in let s = same.splitters in let e = same.edges in
    let few_i = is.few_inputs in let few_o = is.few_outputs in let few_s = is.few_splitters in let few_e = is.few_edges in
    ⊎_elim (λ lt. omega (arith, lt, i, few_i))
    (λ rest. ⊎_elim (λ lt. omega (arith, lt, o, few_o))
    (λ more. ⊎_elim (λ lt. omega (arith, lt, s, few_s)) (λ lt. omega (arith, lt, e, few_e)) more) rest) h.4
refused_shows_not parts naming net NoEnds is h shows =
    let same = as_large parts h.0 net h.1 naming h.2 shows in
    let i = same.inputs in let o = same.outputs in let some_i = is.some_input in let some_o = is.some_output in
    ⊎_elim (λ none. omega (arith, none, i, some_i)) (λ none. omega (arith, none, o, some_o)) h.4.1
refused_shows_not parts naming net Memory is h shows = h

-- so it lays nothing
pub refused_lays_not : (parts : List Part) (naming : Naming) (request : LayoutRequest) (fault : RecoverFault) → IsNetwork request.net → IsRecovered parts (Err fault)
    → LaysBy parts naming request → ⊥
refused_lays_not parts naming request fault is h lays = refused_shows_not parts naming request.net fault is h lays.shows

-- a cell of a block is free where nothing is found there
pub free_told : (parts : List Part) (block : Block) (cell : Cell) (o : Option ℕ) (b : Bool) → cell ≡ blocked block → ((i : ℕ) → (o ≡ Some i) ↔ IsAt parts i cell)
    → is_some o ≡ not b → IsTrue b ↔ IsFree parts block
free_told parts block cell None true e found is = (λ t i at. none-some i ((found i).1 (subst (IsAt parts i) (sym e) at)), λ all. refl)
free_told parts block cell None false e found is = absurd (false≢true is)
free_told parts block cell (Some j) true e found is = absurd (false≢true (sym is))
free_told parts block cell (Some j) false e found is = (λ t. absurd (false≢true t), λ free. absurd (free j (subst (IsAt parts j) e ((found j).0 refl))))

-- the last test of the whole, where the others hold
pub fits_told : (parts ps : List Part) (request : LayoutRequest) (rect : Rect) (own : Naming) (blocks : List Block) (ins outs : List ℕ) (b : Bool)
    → ps ≡ parts → rect ≡ request.rect → blocks ≡ request.blocks → ins ≡ own.inputs → outs ≡ own.outputs
    → All (SuitsAlone request.rect request.tier) parts → ListsEach (IsInput parts) own.inputs → ListsEach (IsOutput parts) own.outputs
    → All (IsFree parts) blocks → All (IsFirstInside rect ps) ins → (IsTrue b ↔ All (IsLastInside rect ps) outs) → IsTrue b ↔ Fits parts request
fits_told parts ps request rect own blocks ins outs b e_parts e_rect e_blocks e_ins e_outs suits inputs outputs free first tells =
    let whole_first : All (IsFirstInside request.rect parts) own.inputs =
    subst (λ r. All (IsFirstInside r parts) own.inputs) e_rect (subst (λ p. All (IsFirstInside rect p) own.inputs) e_parts (subst (All (IsFirstInside rect ps)) e_ins first)) in
    let there : All (IsLastInside rect ps) outs → All (IsLastInside request.rect parts) own.outputs =
    λ last. subst (λ r. All (IsLastInside r parts) own.outputs) e_rect (subst (λ p. All (IsLastInside rect p) own.outputs) e_parts (subst (All (IsLastInside rect ps)) e_outs last)) in
    let back : All (IsLastInside request.rect parts) own.outputs → All (IsLastInside rect ps) outs =
    λ last. subst (All (IsLastInside rect ps)) (sym e_outs) (subst (λ p. All (IsLastInside rect p) own.outputs) (sym e_parts) (subst (λ r. All (IsLastInside r parts) own.outputs) (sym e_rect) last)) in (
      λ t. fits_from parts request own suits inputs outputs (subst (All (IsFree parts)) e_blocks free) whole_first (there (tells.0 t)),
      λ fits. tells.1 (back (last_of parts request own outputs fits)),
    )

pub unfree_told : (parts : List Part) (request : LayoutRequest) (blocks : List Block) (b : Bool) → blocks ≡ request.blocks → (IsTrue b ↔ All (IsFree parts) blocks) → b ≡ false
    → IsTrue false ↔ Fits parts request
unfree_told parts request blocks b e tells is = (
  λ t. absurd (false≢true t),
  λ fits. absurd (false≢true (sym is ∙ tells.1 (subst (All (IsFree parts)) (sym e) (free_of parts request fits)))),
)

pub unfirst_told : (parts ps : List Part) (request : LayoutRequest) (rect : Rect) (own : Naming) (ins : List ℕ) (b : Bool) → ps ≡ parts → rect ≡ request.rect → ins ≡ own.inputs
    → ListsEach (IsInput parts) own.inputs → (IsTrue b ↔ All (IsFirstInside rect ps) ins) → b ≡ false → IsTrue false ↔ Fits parts request
unfirst_told parts ps request rect own ins b e_parts e_rect e_ins inputs tells is = (
  λ t. absurd (false≢true t),
  λ fits. absurd (false≢true (sym is ∙ tells.1 (subst (All (IsFirstInside rect ps)) (sym e_ins) (subst (λ p. All (IsFirstInside rect p) own.inputs) (sym e_parts)
      (subst (λ r. All (IsFirstInside r parts) own.inputs) (sym e_rect) (first_of parts request own inputs fits)))))),
)

-- a network that a layout shows has as many ends of a kind as the layout's own
pub counts_same : (parts : List Part) (m net : Network) (own naming : Naming) → IsNumbered parts m own → Shows parts net naming → (kind : EndKind)
    → end_count net kind ≡ count_of own kind
counts_same parts m net own naming h shows Inputs =
    shows.names.input_count ∙ length_permutation own.inputs naming.inputs (each_rearranged (IsInput parts) own.inputs naming.inputs h.names.inputs shows.names.inputs)
counts_same parts m net own naming h shows Outputs =
    shows.names.output_count ∙ length_permutation own.outputs naming.outputs (each_rearranged (IsOutput parts) own.outputs naming.outputs h.names.outputs shows.names.outputs)
