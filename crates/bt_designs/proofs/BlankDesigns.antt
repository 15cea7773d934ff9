-- A design behind blanks: it is that of the text, so many bytes later, where that is JSON; and other text is refused
-- there.
use Rattle.std.proofs.Common.{◌≡◌, ◌⊎◌, ℕ, ◌+◌, ◌<◌, ◌≤◌, true, List, [], ◌∷◌, ◌++◌, length, get_or, Some, Result, Ok, Err, refl, sym, ◌∙◌, ap, subst, inl, inr, arith, append_assoc, length-append}
use Rattle.std.specs.Prelude.{All, slice_get}
use Rattle.std.proofs.lemmas.List.{length-drop}
use Rattle.std.proofs.lemmas.List.Elements.{All-head, All-tail, All-append}
use Rattle.std.proofs.lemmas.Option.{slice_get_within}
use Rattle.bt_text.specs.Answers.{seen}
use Rattle.bt_text.specs.Blanks.{IsBlank}
use Rattle.bt_text.specs.Lines.{IsFirstLine}
use Rattle.bt_text.proofs.FirstLines.{first_line_of}
use Rattle.bt_parts.specs.declared.part.Part.{Part}
use Rattle.bt_parts.specs.declared.hand.Priority.{Priority}
use Rattle.bt_json.specs.Json.{Json}
use Rattle.bt_json.specs.Grammar.{Blanks, is_blank}
use Rattle.bt_json.specs.Answers.{IsBad, IsFirst}
use Rattle.bt_json.specs.declared.fault.JsonFault.{JsonFault}
use Rattle.bt_json.specs.declared.fault.JsonFault.TheVariants as json
use Rattle.bt_entities.specs.declared.fault.EntityFault.{EntityFault}
use Rattle.bt_entities.specs.declared.fault.EntityFault.TheVariants as entity
use Rattle.bt_recover.specs.declared.grid.GridFault.{GridFault}
use Rattle.bt_recover.specs.declared.grid.GridFault.TheVariants as grid
use Rattle.bt_recover.specs.declared.fault.RecoverFault.{RecoverFault}
use Rattle.bt_recover.specs.declared.fault.RecoverFault.TheVariants as layout
use Rattle.bt_net.specs.declared.fault.NetFault.{NetFault}
use Rattle.bt_net.specs.declared.fault.NetFault.TheVariants as net
use Rattle.bt_net.specs.declared.network.Admitted.{Admitted}
use Rattle.bt_net.specs.declared.network.Admitted.TheVariants as admitted
use Rattle.bt_net.specs.Network.{Network}
use Rattle.bt_net.specs.Refusals.{IsHeader}
use Rattle.bt_net.specs.PinRefusals.{RefusesAll}
use Rattle.bt_designs.specs.declared.design.Laid.{Laid}
use Rattle.bt_designs.specs.declared.fault.DesignFault.{DesignFault}
use Rattle.bt_designs.specs.declared.fault.DesignFault.TheVariants as design
use Rattle.bt_designs.specs.declared.refusal.Refusal.TheVariants as refusal
use Rattle.bt_designs.specs.Designs.{IsJsonText, IsPlacedNet, IsLayoutNet, IsTieredLayout, IsTieredBlueprint, IsPlacedWith, IsLayoutWith, IsPreferringNet, IsTieredWith, IsTieredPreferring, IsJsonOf, IsToldOf, IsDesign, IsBareDesign, in_basic_belts}
use Rattle.bt_designs.specs.Refusals.{json_told, entity_told, grid_told, layout_told, net_told}
use Rattle.bt_designs.specs.Requested.{PinnedNet, pinned_laid, pinned_net, IsPinned}
use Rattle.bt_designs.specs.Steps.{stopped, went_on}
use Rattle.bt_designs.specs.inner.Moved.{moved_fault, moved_told, moved, IsFaultWithin}
use Rattle.bt_designs.proofs.InTurns.{not_both}
use Rattle.bt_designs.proofs.JsonBehindBlanks.{split, behind_blanks_is_read}
use Rattle.bt_designs.proofs.LongerDesigns.{same_fault_of}

-- ---- blanks

blank_true : (b : ℕ) → IsBlank b → is_blank b ≡ true
blank_true b (inl e) = ap is_blank e
blank_true b (inr (inl e)) = ap is_blank e
blank_true b (inr (inr (inl e))) = ap is_blank e
blank_true b (inr (inr (inr e))) = ap is_blank e

blanks_are : (bs : List ℕ) → All IsBlank bs → Blanks bs
blanks_are [] all = tt
blanks_are (b ∷ bs) all = (blank_true b (All-head IsBlank b bs all), blanks_are bs (All-tail IsBlank b bs all))

all_behind : (bs cs : List ℕ) → All IsBlank (bs ++ cs) → All IsBlank cs
all_behind [] cs all = all
all_behind (b ∷ bs) cs all = all_behind bs cs (All-tail IsBlank b (bs ++ cs) all)

-- JSON text behind blanks is JSON text
json_behind_blanks : (blanks bytes : List ℕ) → All IsBlank blanks → IsJsonText bytes → IsJsonText (blanks ++ bytes)
json_behind_blanks blanks bytes are (rest, s) = (
  rest,
  record {
    blanks = blanks ++ s.blanks;
    are_blanks = All-append IsBlank blanks s.blanks are s.are_blanks;
    text_is = ap (λ t. blanks ++ t) s.text_is ∙ sym (append_assoc blanks s.blanks (123 ∷ rest));
    no_more = s.no_more;
  },
)

-- and nothing else is
json_before_blanks : (blanks bytes : List ℕ) → All IsBlank blanks → IsJsonText (blanks ++ bytes) → IsJsonText bytes
json_before_blanks blanks bytes are (rest, s) =
    let cut = split blanks bytes s.blanks 123 rest (blanks_are blanks are) refl s.text_is in (
      rest,
      record {
        blanks = cut.0;
        are_blanks = all_behind blanks cut.0 (subst (All IsBlank) cut.1 s.are_blanks);
        text_is = cut.2;
        no_more = s.no_more;
      },
    )

-- ---- refusals without offsets

abbrev NoOffset : DesignFault → Type 0
NoOffset (design.Refused (refusal.Json at)) = ⊥
NoOffset (design.Refused (refusal.Deep at)) = ⊥
NoOffset (design.Refused (refusal.DuplicateKey at)) = ⊥
NoOffset other = Unit {0}

unmoved : (n : ℕ) (fault : DesignFault) → NoOffset fault → moved_told n fault ≡ fault
unmoved n (design.Refused (refusal.Json at)) h = absurd h
unmoved n (design.Refused (refusal.Deep at)) h = absurd h
unmoved n (design.Refused (refusal.DuplicateKey at)) h = absurd h
unmoved n fault h = refl

none_within : (n : ℕ) (fault : DesignFault) → NoOffset fault → IsFaultWithin n fault
none_within n (design.Refused (refusal.Json at)) h = absurd h
none_within n (design.Refused (refusal.Deep at)) h = absurd h
none_within n (design.Refused (refusal.DuplicateKey at)) h = absurd h
none_within n fault h = tt

entity_none : (f : EntityFault) → NoOffset (entity_told f)
entity_none entity.NotBlueprint = tt
entity_none entity.Book = tt
entity_none entity.TooMany = tt
entity_none (entity.Unsupported i name) = tt
entity_none (entity.BadMember i member) = tt
entity_none (entity.OffGrid i) = tt
entity_none (entity.Special i member) = tt
entity_none entity.Memory = tt

grid_none : (f : GridFault) → NoOffset (grid_told f)
grid_none (grid.Overlap i j) = tt
grid_none grid.Memory = tt

layout_none : (f : RecoverFault) → NoOffset (layout_told f)
layout_none (layout.Unpaired i) = tt
layout_none (layout.SideLoad i) = tt
layout_none (layout.Blocked i) = tt
layout_none (layout.Ring i) = tt
layout_none layout.TooLarge = tt
layout_none layout.NoEnds = tt
layout_none layout.Memory = tt

net_none : (f : NetFault) → NoOffset (net_told f)
net_none (net.NetLine k) = tt
net_none net.TooLarge = tt
net_none net.NoEnds = tt
net_none net.Memory = tt

-- a fault that is another one's tale has no offset where that has none
told_none : {A : Type 0} (fault told : DesignFault) → NoOffset told → ◌≡◌ {A = Result A DesignFault} (Err fault) (Err told) → NoOffset fault
told_none fault told none e = subst NoOffset (sym (same_fault_of fault told e)) none

placed_none : (parts : List Part) (fault : DesignFault) → IsPlacedNet parts (Err fault) → NoOffset fault
placed_none parts fault (stopped f h e) = told_none fault (layout_told f) (layout_none f) e
placed_none parts fault (went_on found h e) = absurd (not_both found.0 fault (sym e))

laid_none : (parts : List Part) (fault : DesignFault) → IsLayoutNet parts (Err fault) → NoOffset fault
laid_none parts fault (stopped f h e) = told_none fault (grid_told f) (grid_none f) e
laid_none parts fault (went_on placed h k) = placed_none placed fault k

tiered_none : (parts : List Part) (fault : DesignFault) → IsTieredLayout parts (Err fault) → NoOffset fault
tiered_none parts fault (stopped f h e) = told_none fault f (laid_none parts f h) e
tiered_none parts fault (went_on net h (tier, is, e)) = absurd (not_both _ fault (sym e))

blueprint_none : (value : Json) (fault : DesignFault) → IsTieredBlueprint value (Err fault) → NoOffset fault
blueprint_none value fault (stopped f h e) = told_none fault (entity_told f) (entity_none f) e
blueprint_none value fault (went_on parts h k) = tiered_none parts fault k

placed_with_none : (priorities : List Priority) (parts : List Part) (fault : DesignFault) → IsPlacedWith priorities parts (Err fault) → NoOffset fault
placed_with_none priorities parts fault (stopped f h e) = told_none fault (layout_told f) (layout_none f) e
placed_with_none priorities parts fault (went_on found h e) = absurd (not_both found.0 fault (sym e))

laid_with_none : (read : List Part × List Priority) (fault : DesignFault) → IsLayoutWith read (Err fault) → NoOffset fault
laid_with_none read fault (stopped f h e) = told_none fault (grid_told f) (grid_none f) e
laid_with_none read fault (went_on placed h k) = placed_with_none read.1 placed fault k

preferring_none : (value : Json) (fault : DesignFault) → IsPreferringNet value (Err fault) → NoOffset fault
preferring_none value fault (stopped f h e) = told_none fault (entity_told f) (entity_none f) e
preferring_none value fault (went_on read h k) = laid_with_none read fault k

tiered_with_none : (read : List Part × List Priority) (fault : DesignFault) → IsTieredWith read (Err fault) → NoOffset fault
tiered_with_none read fault (stopped f h e) = subst NoOffset (sym (same_fault_of fault f e)) (laid_with_none read f h)
tiered_with_none read fault (went_on net h k) = absurd (not_both (record { net = net; tier = k.0 }) fault (sym k.2))

preferring_layout_none : (value : Json) (fault : DesignFault) → IsTieredPreferring value (Err fault) → NoOffset fault
preferring_layout_none value fault (stopped f h e) = told_none fault (entity_told f) (entity_none f) e
preferring_layout_none value fault (went_on read h k) = tiered_with_none read fault k

-- ---- JSON text

json_moved : (n : ℕ) (f : JsonFault) → moved_told n (json_told f) ≡ json_told (moved_fault n f)
json_moved n (json.Json at) = refl
json_moved n (json.Deep at) = refl
json_moved n (json.DuplicateKey at) = refl
json_moved n json.Memory = refl

bad_within : (bytes : List ℕ) (at : ℕ) → IsBad bytes at → at ≤ length bytes
bad_within bytes at (inl h) = let few = h.0 in omega (arith, few)
bad_within bytes at (inr h) = let end = h.0 in omega (arith, end)

opens_within : (bytes : List ℕ) (at : ℕ) → (slice_get bytes at ≡ Some 91) ⊎ (slice_get bytes at ≡ Some 123) → at ≤ length bytes
opens_within bytes at (inl e) = let few = slice_get_within bytes at 91 e in omega (arith, few)
opens_within bytes at (inr e) = let few = slice_get_within bytes at 123 e in omega (arith, few)

-- the offset of a fault is within the text
read_within : (bytes : List ℕ) (f : JsonFault) → IsFirst bytes f → IsFaultWithin (length bytes) (json_told f)
read_within bytes (json.Json at) r = bad_within bytes at r.found.1
read_within bytes (json.Deep at) r = opens_within bytes at r.found.1.opens
read_within bytes (json.DuplicateKey at) r =
    let d = r.found in
    let j = d.spelled.spelled in
    let begins = ap length (j.whole ∙ ap (λ x. x ++ j.back) j.first) in
    let long = ap length d.whole in
    let both = length-append d.spelling d.rest in
    let left = length-drop at bytes in
    omega (arith, begins, long, both, left)
read_within bytes json.Memory r = tt

module _ {X : Type 0} (IsOf : Json → Result X DesignFault → Type 0) (none : (value : Json) (fault : DesignFault) → IsOf value (Err fault) → NoOffset fault) where
  seen_moved : (n used : ℕ) (value : Json) (found : Result X DesignFault) → IsOf value found → moved n (seen (λ (m : X). (m, used)) found) ≡ seen (λ (m : X). (m, n + used)) found
  seen_moved n used value (Ok m) k = refl
  seen_moved n used value (Err fault) k = ap Err (unmoved n fault (none value fault k))

  -- what comes of JSON text behind blanks
  pub json_behind : (blanks bytes : List ℕ) (answer : Result (X × ℕ) DesignFault) → All IsBlank blanks → IsJsonOf IsOf bytes answer → IsJsonOf IsOf (blanks ++ bytes) (moved (length blanks) answer)
  json_behind blanks bytes answer are (stopped f h e) =
      stopped (moved_fault (length blanks) f) (behind_blanks_is_read blanks bytes (Err f) (blanks_are blanks are) h) (ap (moved (length blanks)) e ∙ ap Err (json_moved (length blanks) f))
  json_behind blanks bytes answer are (went_on read h k) =
      went_on (read.0, length blanks + read.1) (behind_blanks_is_read blanks bytes (Ok read) (blanks_are blanks are) h)
      (k.0, k.1, ap (moved (length blanks)) k.2 ∙ seen_moved (length blanks) read.1 read.0 k.0 k.1)

  seen_within : (n used : ℕ) (value : Json) (fault : DesignFault) (found : Result X DesignFault) → IsOf value found → ◌≡◌ {A = Result (X × ℕ) DesignFault} (Err fault) (seen (λ (m : X). (m, used)) found) → IsFaultWithin n fault
  seen_within n used value fault (Ok m) k e = absurd (not_both (m, used) fault (sym e))
  seen_within n used value fault (Err g) k e = none_within n fault (told_none fault g (none value g k) e)

  -- the offset of its refusal is within the text
  pub json_fault_within : (bytes : List ℕ) (fault : DesignFault) → IsJsonOf IsOf bytes (Err fault) → IsFaultWithin (length bytes) fault
  json_fault_within bytes fault (stopped f h e) = subst (IsFaultWithin (length bytes)) (sym (same_fault_of fault (json_told f) e)) (read_within bytes f h)
  json_fault_within bytes fault (went_on read h k) = seen_within (length bytes) read.1 read.0 fault k.0 k.1 k.2

-- what is told of the layout that comes of JSON text behind blanks
module _ {Y : Type 0} (IsOf : Json → Result Laid DesignFault → Type 0) (none : (value : Json) (fault : DesignFault) → IsOf value (Err fault) → NoOffset fault) (told : Laid → Y) (bytes : List ℕ) where
  pub told_behind : (blanks : List ℕ) (answer : Result (Y × ℕ) DesignFault) → All IsBlank blanks → IsToldOf IsOf told bytes answer → IsToldOf IsOf told (blanks ++ bytes) (moved (length blanks) answer)
  told_behind blanks answer are (stopped fault k e) =
      stopped (moved_told (length blanks) fault) (json_behind IsOf none blanks bytes (Err fault) are k) (ap (moved (length blanks)) e)
  told_behind blanks answer are (went_on found k e) =
      went_on (found.0, length blanks + found.1) (json_behind IsOf none blanks bytes (Ok found) are k) (ap (moved (length blanks)) e)

  -- the offset of its refusal is within the text
  pub told_fault_within : (fault : DesignFault) → IsToldOf IsOf told bytes (Err fault) → IsFaultWithin (length bytes) fault
  told_fault_within fault (stopped g h e) = subst (IsFaultWithin (length bytes)) (sym (same_fault_of fault g e)) (json_fault_within IsOf none bytes g h)
  told_fault_within fault (went_on found h e) = absurd (not_both (told found.0, found.1) fault (sym e))

-- ---- network text

not_blank_n : IsBlank 110 → ⊥
not_blank_n (inl e) = omega (arith, e)
not_blank_n (inr (inl e)) = omega (arith, e)
not_blank_n (inr (inr (inl e))) = omega (arith, e)
not_blank_n (inr (inr (inr e))) = omega (arith, e)

-- a line that begins with a blank is no header
no_header : (b : ℕ) (text first rest : List ℕ) → IsBlank b → IsFirstLine (b ∷ text) first rest → (i o s : ℕ) → IsHeader first i o s → ⊥
no_header b text first rest blank is i o s h = not_blank_n (subst IsBlank (first_byte is) blank)
  where
    first_byte : IsFirstLine (b ∷ text) first rest → b ≡ 110
    first_byte (inl split) = omega (arith, ap (λ x. get_or x 0 0) (split.text_is ∙ ap (λ l. l ++ 10 ∷ rest) h.bytes_are))
    first_byte (inr last) = omega (arith, ap (λ x. get_or x 0 0) (last.1 ∙ h.bytes_are))

-- network text behind blanks is refused at its first line
all_refused : (may : Admitted) (blanks bytes : List ℕ) → All IsBlank blanks → 0 < length blanks → RefusesAll may (blanks ++ bytes) (net.NetLine 1)
all_refused may [] bytes are some = absurd (omega (arith, some))
all_refused may (b ∷ blanks) bytes are some =
    let first = first_line_of (b ∷ (blanks ++ bytes)) in
    (first.0, first.1, first.2, inl (refl, no_header b (blanks ++ bytes) first.0 first.1 (All-head IsBlank b blanks are) first.2))

-- ---- designs

module _ (blanks bytes : List ℕ) (are : All IsBlank blanks) where
  pub design_behind : (answer : Result (Network × ℕ) DesignFault) → IsJsonText bytes → IsDesign bytes answer → IsDesign (blanks ++ bytes) (moved (length blanks) answer)
  design_behind answer is (inl h) = inl (json_behind_blanks blanks bytes are is, json_behind IsPreferringNet preferring_none blanks bytes answer are h.1)
  design_behind answer is (inr h) = absurd (h.0 is)

  pub bare_behind : (answer : Result (Network × ℕ) DesignFault) → IsJsonText bytes → IsBareDesign bytes answer → IsBareDesign (blanks ++ bytes) (moved (length blanks) answer)
  bare_behind answer is (inl h) = inl (json_behind_blanks blanks bytes are is, told_behind IsTieredBlueprint blueprint_none in_basic_belts bytes blanks answer are h.1)
  bare_behind answer is (inr h) = absurd (h.0 is)

  pub pinned_behind : (answer : Result (PinnedNet × ℕ) DesignFault) → IsJsonText bytes → IsPinned bytes answer → IsPinned (blanks ++ bytes) (moved (length blanks) answer)
  pinned_behind answer is (inl h) = inl (json_behind_blanks blanks bytes are is, told_behind IsTieredPreferring preferring_layout_none pinned_laid bytes blanks answer are h.1)
  pinned_behind answer is (inr h) = absurd (h.0 is)

  module _ (some : 0 < length blanks) (other : IsJsonText bytes → ⊥) where
    not_json : IsJsonText (blanks ++ bytes) → ⊥
    not_json is = other (json_before_blanks blanks bytes are is)

    pub design_indented : IsDesign (blanks ++ bytes) (Err (design.Refused (refusal.NetLine 1)))
    design_indented = inr (not_json, stopped (net.NetLine 1) (all_refused admitted.Priorities blanks bytes are some) refl)

    pub bare_indented : IsBareDesign (blanks ++ bytes) (Err (design.Refused (refusal.NetLine 1)))
    bare_indented = inr (not_json, stopped (net.NetLine 1) (all_refused admitted.Nothing blanks bytes are some) refl)

    pub pinned_indented : IsPinned (blanks ++ bytes) (Err (design.Refused (refusal.NetLine 1)))
    pinned_indented = inr (not_json, stopped (net.NetLine 1) (all_refused admitted.All blanks bytes are some) refl)

module _ (bytes : List ℕ) (fault : DesignFault) where
  net_within : {A : Type 0} (f : NetFault) → ◌≡◌ {A = Result A DesignFault} (Err fault) (Err (net_told f)) → IsFaultWithin (length bytes) fault
  net_within f e = none_within (length bytes) fault (told_none fault (net_told f) (net_none f) e)

  -- the offset of a refusal is within the bytes
  pub design_fault_within : IsDesign bytes (Err fault) → IsFaultWithin (length bytes) fault
  design_fault_within (inl h) = json_fault_within IsPreferringNet preferring_none bytes fault h.1
  design_fault_within (inr (none, stopped f h e)) = net_within f e
  design_fault_within (inr (none, went_on read h e)) = absurd (not_both (read.net, read.used) fault (sym e))

  pub bare_fault_within : IsBareDesign bytes (Err fault) → IsFaultWithin (length bytes) fault
  bare_fault_within (inl h) = told_fault_within IsTieredBlueprint blueprint_none in_basic_belts bytes fault h.1
  bare_fault_within (inr (none, stopped f h e)) = net_within f e
  bare_fault_within (inr (none, went_on read h e)) = absurd (not_both (read.net, read.used) fault (sym e))

  pub pinned_fault_within : IsPinned bytes (Err fault) → IsFaultWithin (length bytes) fault
  pinned_fault_within (inl h) = told_fault_within IsTieredPreferring preferring_layout_none pinned_laid bytes fault h.1
  pinned_fault_within (inr (none, stopped f h e)) = net_within f e
  pinned_fault_within (inr (none, went_on read h e)) = absurd (not_both (pinned_net read.net read.demands read.blocks, read.used) fault (sym e))
