-- How reading goes on in a list and in an object alike.
use Rattle.std.proofs.Common.{◌≡◌, ◌≢◌, ℕ, ◌+◌, ◌-◌, ◌<◌, ◌≤◌, true, false, inl, inr, List, [], ◌∷◌, ◌++◌, map, length, get_or, Option, Some, None, refl, ap, ◌∙◌, sym, subst, arith}
use Rattle.std.specs.Prelude.{Result, Ok, Err}
use Rattle.std.proofs.lemmas.List.{map_push}
use Rattle.std.proofs.lemmas.Bool.{cases_lt}
use Rattle.bt_json.specs.Json.{Json}
use Rattle.bt_json.specs.Places.{Frame, in_list, in_object}
use Rattle.bt_json.specs.inner.Bytes.{kind_of, mark_of}
use Rattle.bt_json.specs.inner.Reading.{State, Step, go, stop, Stop, bad, deep, due, behind, deliver, opens_level, step, step_due, step_behind, step_number, in_number, numeral, first_phase}
use Rattle.bt_json.specs.inner.Running.{SkipsBlanks, rest_of, rest_after, Faults, ReadsOn}
use Rattle.bt_json.specs.inner.Frames.{frame_begun, IsFresh, closing_of, opened, item_due, with_value, closed}
use Rattle.bt_json.specs.inner.Ahead.{Within, ComesNext, place_of, step_ahead}
use Rattle.bt_json.specs.inner.Names.{names_of}
use Rattle.bt_json.specs.inner.Nested.{frame_with, frame_of, Begins, IsToken, Outside, ReadsTree, Pushes}
use Rattle.bt_json.specs.Stands.{json_of}
use Rattle.bt_json.specs.declared.tree.Tree.{Tree}
use Rattle.bt_json.specs.declared.names.NamesSoFar.{NamesSoFar}
use Rattle.bt_json.specs.declared.limits.TheConstants.{MOST_LEVELS}
use Rattle.bt_json.specs.declared.kind.Kind.{Kind}
use Rattle.bt_json.specs.declared.kind.Kind.TheVariants.{Blank, ListOpens, ListCloses, ObjectOpens, ObjectCloses, Comma, Digit}
use Rattle.bt_json.specs.declared.kind.Mark.TheVariants.{Figure}
use Rattle.bt_json.specs.declared.kind.Phase.TheVariants.{BeforeWhole}
use Rattle.bt_json.specs.declared.nested.Nested.{Nested}
use Rattle.bt_json.specs.declared.nested.Ahead.{Ahead}
use Rattle.bt_json.specs.declared.nested.Ahead.TheVariants.{Item}
use Rattle.bt_json.specs.declared.fault.JsonFault.{JsonFault}
use Rattle.bt_json.proofs.Levels.{NoBlank, list_closes, object_closes, first_item, first_name, no_kind, OpensNone, due_at, due_other, opens_inside, opens_deep}
use Rattle.bt_json.proofs.Blanks.{skips_opened_list, skips_opened_object}
use Rattle.bt_json.proofs.ByteKinds.{kind-Digit, kind-ListCloses, kind-ObjectCloses, kind-Comma, kind_of-list_closes, kind_of-object_closes, kind_of-comma}
use Rattle.bt_json.proofs.EatenNumbers.{mark-digit}
use Rattle.bt_json.proofs.Running.{rest_more, rest_end, begins_plain, number_goes_on}

-- what was read from one place on is read from another that leads there
pub reads_moved : {X J K : Type 0} (bytes : List ℕ) (a b : ℕ) (g : J → K) (from : J → State) (to : K → State) (place : X → ℕ) (next : X → K → Step) (r : Result X JsonFault) → a ≤ b
    → ((j : J) → rest_of bytes a (from j) ≡ rest_of bytes b (to (g j))) → ReadsOn bytes b to place next r → ReadsOn bytes a from place (λ x j. next x (g j)) r
reads_moved bytes a b g from to place next (Ok x) le led h = ((let l = h.0 in omega arith), λ j. led j ∙ h.1 (g j))
reads_moved bytes a b g from to place next (Err f) le led h = λ j. subst (Faults f) (sym (led j)) (h (g j))

pub skips_opened : (f : Frame) (k : List Frame) → SkipsBlanks true (opened f k)
skips_opened (in_list vs) k = skips_opened_list true k
skips_opened (in_object names vs) k = skips_opened_object true k

pub closes_first : (bytes : List ℕ) (at : ℕ) (f : Frame) (k : List Frame) → IsFresh f → at < length bytes → get_or bytes at 0 ≡ closing_of f
    → rest_of bytes at (opened f k) ≡ rest_after bytes (at + 1) (deliver (closed f) k (at + 1))
closes_first bytes at (in_list []) k fresh lt e = list_closes bytes at k lt e
closes_first bytes at (in_list (v ∷ vs)) k fresh lt e = absurd fresh
closes_first bytes at (in_object [] []) k fresh lt e = object_closes bytes at k lt e
closes_first bytes at (in_object [] (v ∷ vs)) k fresh lt e = absurd fresh
closes_first bytes at (in_object (n ∷ names) vs) k fresh lt e = absurd fresh

pub begins_first : (bytes : List ℕ) (at : ℕ) (f : Frame) (k : List Frame) → IsFresh f → NoBlank bytes at → (at < length bytes → get_or bytes at 0 ≢ closing_of f)
    → rest_of bytes at (opened f k) ≡ rest_of bytes at (item_due f k)
begins_first bytes at (in_list []) k fresh no_blank no_close = first_item bytes at k no_blank no_close
begins_first bytes at (in_list (v ∷ vs)) k fresh no_blank no_close = absurd fresh
begins_first bytes at (in_object [] []) k fresh no_blank no_close = first_name bytes at k no_blank no_close
begins_first bytes at (in_object [] (v ∷ vs)) k fresh no_blank no_close = absurd fresh
begins_first bytes at (in_object (n ∷ names) vs) k fresh no_blank no_close = absurd fresh

-- the kind of the byte that closes a frame
abbrev closing_kind : Frame → Kind
closing_kind (in_list vs) = ListCloses
closing_kind (in_object names vs) = ObjectCloses

kind_of-closing : (f : Frame) → kind_of (closing_of f) ≡ closing_kind f
kind_of-closing (in_list vs) = kind_of-list_closes
kind_of-closing (in_object names vs) = kind_of-object_closes

is_closing : (f : Frame) (b : ℕ) → kind_of b ≡ closing_kind f → b ≡ closing_of f
is_closing (in_list vs) b e = kind-ListCloses b e
is_closing (in_object names vs) b e = kind-ObjectCloses b e

step_closes : (at : ℕ) (v : Json) (f : Frame) (k : List Frame) → step_behind at v f k (closing_kind f) ≡ deliver (closed (with_value f v)) k (at + 1)
step_closes at v (in_list vs) k = refl
step_closes at v (in_object names vs) k = refl

step_comma : (at : ℕ) (v : Json) (f : Frame) (k : List Frame) → step_behind at v f k Comma ≡ go (item_due (with_value f v) k)
step_comma at v (in_list vs) k = refl
step_comma at v (in_object names vs) k = refl

step_breaks : (at : ℕ) (v : Json) (f : Frame) (k : List Frame) (kind : Kind) → kind ≢ Blank → kind ≢ closing_kind f → kind ≢ Comma → step_behind at v f k kind ≡ stop (bad at)
step_breaks at v f k Blank n m o = absurd (n refl)
step_breaks at v f k Comma n m o = absurd (o refl)
step_breaks at v (in_list vs) k ListCloses n m o = absurd (m refl)
step_breaks at v (in_list vs) k kind n m o = refl
step_breaks at v (in_object names vs) k ObjectCloses n m o = absurd (m refl)
step_breaks at v (in_object names vs) k kind n m o = refl

pub closes_behind : (bytes : List ℕ) (at : ℕ) (v : Json) (f : Frame) (k : List Frame) → at < length bytes → get_or bytes at 0 ≡ closing_of f
    → rest_of bytes at (behind v f k) ≡ rest_after bytes (at + 1) (deliver (closed (with_value f v)) k (at + 1))
unfolding step
closes_behind bytes at v f k lt e = rest_more bytes at (behind v f k) lt ∙ ap (λ kind. rest_after bytes (at + 1) (step_behind at v f k kind)) (ap kind_of e ∙ kind_of-closing f) ∙ ap (rest_after bytes (at + 1)) (step_closes at v f k)

pub comma_behind : (bytes : List ℕ) (at : ℕ) (v : Json) (f : Frame) (k : List Frame) → at < length bytes → get_or bytes at 0 ≡ 44
    → rest_of bytes at (behind v f k) ≡ rest_of bytes (at + 1) (item_due (with_value f v) k)
unfolding step
comma_behind bytes at v f k lt e = rest_more bytes at (behind v f k) lt ∙ ap (λ kind. rest_after bytes (at + 1) (step_behind at v f k kind)) (ap kind_of e ∙ kind_of-comma) ∙ ap (rest_after bytes (at + 1)) (step_comma at v f k)

pub breaks_behind : (bytes : List ℕ) (at : ℕ) (v : Json) (f : Frame) (k : List Frame) → NoBlank bytes at → (at < length bytes → get_or bytes at 0 ≢ closing_of f) → (at < length bytes → get_or bytes at 0 ≢ 44)
    → rest_of bytes at (behind v f k) ≡ bad at
unfolding step
breaks_behind bytes at v f k no_blank no_close no_comma = elim (cases_lt at (length bytes)) [
  | inl lt ↦ rest_more bytes at (behind v f k) lt
      ∙ ap (rest_after bytes (at + 1)) (step_breaks at v f k (kind_of (get_or bytes at 0)) (no_kind _ (no_blank lt)) (λ e. no_close lt (is_closing f _ e)) (λ e. no_comma lt (kind-Comma _ e)))
  | inr le ↦ rest_end bytes at (behind v f k) le
]

closing-with : (f : Frame) (v : Json) → closing_of (with_value f v) ≡ closing_of f
closing-with (in_list vs) v = refl
closing-with (in_object names vs) v = refl

-- a value more in a frame
pub frame_with-push : (names : Option NamesSoFar) (ts : List Tree) (t : Tree) (more : List Tree) → more ≡ ts ++ t ∷ [] → frame_with names (map json_of more) ≡ with_value (frame_with names (map json_of ts)) (json_of t)
frame_with-push None ts t more e = ap in_list (ap (map json_of) e ∙ map_push json_of ts t)
frame_with-push (Some names) ts t more e = ap (in_object (names_of names)) (ap (map json_of) e ∙ map_push json_of ts t)

-- what comes behind a value comes behind it in its frame
pub pushed : (bytes : List ℕ) (start closing : ℕ) (v : Json) (old new : Frame) (r : Result Ahead JsonFault) → new ≡ with_value old v → closing ≡ closing_of new → ComesNext bytes start closing r → Pushes bytes start v old new r
pushed bytes start closing v old new r is closes h = rw is (by r h)
  where
    within : List Frame → Within closing
    within k = record { value = v; frame = old; around = k; closes = sym (closing-with old v) ∙ ap closing_of (sym is) ∙ sym closes }

    by : (x : Result Ahead JsonFault) → ComesNext bytes start closing x → Pushes bytes start v old (with_value old v) x
    by (Ok ahead) g = (g.0, λ k. g.1 (within k))
    by (Err f) g = λ k. g (within k)

-- ---- values

-- a list or an object goes on behind the byte that opens it, unless there are as many levels as may be
opens_kind : (at : ℕ) (k : List Frame) (b : ℕ) (kind : Kind) (f : Frame) → frame_begun kind ≡ Some f → step_due true at k b kind ≡ opens_level true k at (opened f k)
opens_kind at k b ListOpens f e = let same : in_list [] ≡ f = cc in ap (λ x. opens_level true k at (opened x k)) same
opens_kind at k b ObjectOpens f e = let same : in_object [] [] ≡ f = cc in ap (λ x. opens_level true k at (opened x k)) same
opens_kind at k b kind f e = absurd cc

-- the list or the object that a token opens
pub nested_led : (bytes : List ℕ) (at depth : ℕ) (kind : Kind) (o : Option Nested) (n : Nested) → o ≡ Some n → Begins kind at depth (Ok o) → IsToken bytes at kind → (around : Outside depth)
    → rest_of bytes at (due around.frames) ≡ rest_of bytes (at + 1) (opened (frame_of n) around.frames)
nested_led bytes at depth kind o n is begins token around =
    let k = around.frames in
    let g = subst (λ x. Begins kind at depth (Ok x)) is begins in
    let shallow : length k < MOST_LEVELS = let e = around.count in let lt = g.3 in omega arith in
    due_at bytes at k kind token.within token.is ∙ ap (rest_after bytes (at + 1)) (opens_kind at k (get_or bytes at 0) kind (frame_of n) g.0 ∙ opens_inside k at (opened (frame_of n) k) shallow)

-- the list or the object that a token would open as a level too many
pub nested_ends : (bytes : List ℕ) (at depth : ℕ) (kind : Kind) (fault : JsonFault) → Begins kind at depth (Err fault) → depth ≤ MOST_LEVELS → IsToken bytes at kind → (around : Outside depth) → Faults fault (rest_of bytes at (due around.frames))
nested_ends bytes at depth kind fault (inl e) le token around = subst (λ f. Faults f (rest_of bytes at (due around.frames))) (sym e) tt
nested_ends bytes at depth kind fault (inr e) le token around = subst (λ f. Faults f (rest_of bytes at (due around.frames))) (sym e.0)
    (due_at bytes at k kind token.within token.is ∙ ap (rest_after bytes (at + 1)) (by (frame_begun kind) refl))
  where
    k : List Frame
    k = around.frames

    by : (o : Option Frame) → frame_begun kind ≡ o → step_due true at k (get_or bytes at 0) kind ≡ stop (deep at)
    by None q = absurd (e.1 q)
    by (Some f) q = let full : length k ≡ MOST_LEVELS = let n = around.count in let m = e.2 in omega arith in opens_kind at k (get_or bytes at 0) kind f q ∙ opens_deep k at (opened f k) full

-- the state behind the byte that begins a number
pub begins_number : (bytes : List ℕ) (at : ℕ) (k : List Frame) → at < length bytes → kind_of (get_or bytes at 0) ≡ Digit → rest_of bytes at (due k) ≡ rest_of bytes at (in_number BeforeWhole (numeral false []) k)
begins_number bytes at k lt e =
    let d : ℕ = get_or bytes at 0 - 48 in
    let r = kind-Digit (get_or bytes at 0) e in
    let same : d + 48 ≡ get_or bytes at 0 = let low = r.0 in omega arith in
    let small : d < 10 = let top = r.1 in omega arith in
    let mark : mark_of (get_or bytes at 0) ≡ Figure d = ap mark_of (sym same) ∙ mark-digit d small in
    begins_plain bytes at k lt e ∙ sym (number_goes_on bytes at BeforeWhole (first_phase d) (numeral false []) (numeral false (d ∷ [])) k lt (sym (ap (step_number BeforeWhole (numeral false [])) mark)))

-- a token that begins no value
pub token_breaks : (bytes : List ℕ) (at : ℕ) (kind : Kind) (k : List Frame) → IsToken bytes at kind → OpensNone kind → rest_of bytes at (due k) ≡ bad at
token_breaks bytes at kind k token none = due_at bytes at k kind token.within token.is ∙ ap (rest_after bytes (at + 1)) (due_other at k (get_or bytes at 0) kind none)

-- a value that was read from a state on
pub tree_moved : (bytes : List ℕ) (a b : ℕ) (from to : List Frame → State) (r : Result (Tree × ℕ) JsonFault) → a ≤ b → ((k : List Frame) → rest_of bytes a (from k) ≡ rest_of bytes b (to k)) → ReadsTree bytes b to r → ReadsTree bytes a from r
tree_moved bytes a b from to r = reads_moved bytes a b (λ k. k) from to (λ x. x.1) (λ x k. deliver (json_of x.0) k x.1) r

-- ---- the values of a list or an object

-- where an item comes, it is due there
pub item_led : (bytes : List ℕ) (ahead : Ahead) (at : ℕ) (f : Frame) (k : List Frame) (e : Stop) → ahead ≡ Item at → e ≡ rest_after bytes (place_of ahead) (step_ahead ahead f k) → e ≡ rest_of bytes at (item_due f k)
item_led bytes ahead at f k e is h = h ∙ ap (λ a. rest_after bytes (place_of a) (step_ahead a f k)) is

-- a frame more is open around its values
abbrev pub inside : (depth : ℕ) → Frame → Outside depth → Outside (depth + 1)
inside depth f around = record { frames = f ∷ around.frames; count = let n = around.count in omega arith }
