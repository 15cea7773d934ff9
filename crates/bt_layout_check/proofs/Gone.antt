-- Names that are tried one after another are all that there may be.
use Rattle.std.proofs.Common.{◌≡◌, ℕ, ◌+◌, ◌-◌, ◌<◌, List, [], ◌∷◌, ◌++◌, length, get_or, take, drop, refl, sym, ◌∙◌, ap, subst, ⊎_elim, arith}
use Rattle.std.specs.List.{All}
use Rattle.std.specs.Prelude.{MatchOption, None, Option, Some}
use Rattle.std.proofs.Math.Seq.{drop-append_seam, take-append_seam}
use Rattle.std.proofs.lemmas.Bool.{cases_lt}
use Rattle.std.proofs.lemmas.List.{append_assoc, length-append}
use Rattle.std.proofs.lemmas.List.Elements.{All-append, All-head, All-tail, Contains-get_or}
use Rattle.std.proofs.lemmas.Option.{slice_get_within}
use Rattle.bt_parts.specs.declared.part.Part.{Part}
use Rattle.bt_model.specs.Chains.{IsSplitter}
use Rattle.bt_model.specs.Laying.{Lays}
use Rattle.bt_model.specs.Requests.{LayoutRequest}
use Rattle.bt_model.specs.Shown.{ListsEach, Naming}
use Rattle.bt_net.specs.Network.{Network}
use Rattle.bt_layout_check.specs.Laid.{LaysBy}
use Rattle.bt_layout_check.specs.inner.Finding.{NoneGoesOn, count_in, naming_in}
use Rattle.bt_layout_check.proofs.Within.{inputs_within, outputs_within}

append_none : (xs : List ℕ) → xs ++ [] ≡ xs
append_none [] = refl
append_none (x ∷ xs) = ap (λ ys. x ∷ ys) (append_none xs)

-- where the parts lie by the whole list, none goes on with nothing where they don't
pub none_whole : (parts : List Part) (request : LayoutRequest) (bearers : List ℕ) (left : ℕ) → left ≡ 0 → (LaysBy parts (naming_in request.net bearers) request → ⊥) → NoneGoesOn parts request bearers left
none_whole parts request bearers left e none [] long within lays = none (subst (λ l. LaysBy parts (naming_in request.net l) request) (append_none bearers) lays)
none_whole parts request bearers left e none (x ∷ rest) long within lays = absurd (omega (arith, e, long))

-- where none goes on with each part, none goes on
pub none_further : (parts : List Part) (request : LayoutRequest) (bearers : List ℕ) (left : ℕ) → 0 < left
    → ((p : ℕ) → p < length parts → NoneGoesOn parts request (bearers ++ p ∷ []) (left - 1)) → NoneGoesOn parts request bearers left
none_further parts request bearers left some each [] long within lays = absurd (omega (arith, some, long))
none_further parts request bearers left some each (x ∷ rest) long within lays =
    each x (All-head (λ i. i < length parts) x rest within) rest (omega (arith, long)) (All-tail (λ i. i < length parts) x rest within)
    (subst (λ l. LaysBy parts (naming_in request.net l) request) (sym (append_assoc bearers (x ∷ []) rest)) lays)

-- one part more
pub none_more : (parts : List Part) (request : LayoutRequest) (bearers more : List ℕ) (left part : ℕ) → more ≡ bearers ++ part ∷ []
    → ((p : ℕ) → p < part → NoneGoesOn parts request (bearers ++ p ∷ []) left) → NoneGoesOn parts request more left
    → (p : ℕ) → p < part + 1 → NoneGoesOn parts request (bearers ++ p ∷ []) left
none_more parts request bearers more left part is before none p lt =
    ⊎_elim (λ below. before p below)
    (λ above. let same : part ≡ p = omega (arith, lt, above) in
    subst (λ q. NoneGoesOn parts request (bearers ++ q ∷ []) left) same (subst (λ l. NoneGoesOn parts request l left) is none))
    (cases_lt p part)

splitters_within : (parts : List Part) (xs : List ℕ) → ListsEach (IsSplitter parts) xs → All (λ i. i < length parts) xs
splitters_within parts xs lists k d lt = let splitter = lists.only (get_or xs k d) (Contains-get_or xs k d lt) in slice_get_within parts (get_or xs k d) splitter.0 splitter.1

-- the parts of a naming, kind by kind
whole : Naming → List ℕ
whole naming = naming.splitters ++ (naming.inputs ++ naming.outputs)

naming_whole : (net : Network) (naming : Naming) → net.splitters ≡ length naming.splitters → net.inputs ≡ length naming.inputs → naming_in net (whole naming) ≡ naming
unfolding whole
naming_whole net naming s i =
    let ends = naming.inputs ++ naming.outputs in
    let splitters : take net.splitters (naming.splitters ++ ends) ≡ naming.splitters = ap (λ n. take n (naming.splitters ++ ends)) s ∙ take-append_seam naming.splitters ends in
    let others : drop net.splitters (naming.splitters ++ ends) ≡ ends = ap (λ n. drop n (naming.splitters ++ ends)) s ∙ drop-append_seam naming.splitters ends in
    let inputs : take net.inputs (drop net.splitters (naming.splitters ++ ends)) ≡ naming.inputs =
    ap (take net.inputs) others ∙ ap (λ n. take n ends) i ∙ take-append_seam naming.inputs naming.outputs in
    let outputs : drop net.inputs (drop net.splitters (naming.splitters ++ ends)) ≡ naming.outputs =
    ap (drop net.inputs) others ∙ ap (λ n. drop n ends) i ∙ drop-append_seam naming.inputs naming.outputs in
    λ t. record { splitters = splitters t; inputs = inputs t; outputs = outputs t }

-- where no naming goes on from nothing, the parts don't lay the request
pub none_at_all : (parts : List Part) (request : LayoutRequest) (left : ℕ) → left ≡ count_in request.net → NoneGoesOn parts request [] left → Lays parts request → ⊥
unfolding whole
none_at_all parts request left is none lays =
    let naming = lays.naming in
    let names = lays.shows.names in
    let s = names.splitter_count in let i = names.input_count in let o = names.output_count in
    let all = length-append naming.splitters (naming.inputs ++ naming.outputs) in
    let ends = length-append naming.inputs naming.outputs in
    none (whole naming) (omega (arith, is, s, i, o, all, ends))
    (All-append (λ j. j < length parts) naming.splitters (naming.inputs ++ naming.outputs) (splitters_within parts naming.splitters names.splitters)
    (All-append (λ j. j < length parts) naming.inputs naming.outputs (inputs_within parts naming.inputs names.inputs) (outputs_within parts naming.outputs names.outputs)))
    (subst (λ n. LaysBy parts n request) (sym (naming_whole request.net naming s i)) (record { fits = lays.fits; shows = lays.shows; demands = lays.demands }))

-- what is said of none follows from what was said
pub told_weaker : {X : Type 0} (o : Option X) (N M : Type 0) (S : X → Type 0) → (N → M) → MatchOption o N S → MatchOption o M S
told_weaker None N M S weaker told = weaker told
told_weaker (Some x) N M S weaker told = told
