-- What is told of something that is to stand at the front of an input, by a part of what is held of it.
use Rattle.std.proofs.Common.{◌≡◌, ◌⊎◌, ℕ, ◌+◌, ◌<◌, ◌≤◌, true, false, List, [], ◌∷◌, ◌++◌, length, Some, Result, Ok, Err, refl, sym, ◌∙◌, ap, subst, inl, inr, arith, append_assoc, append-nil, length-append}
use Rattle.std.specs.Prelude.{All, IfErr, IfOk, IfSome, Option, None}
use Rattle.bt_text.specs.Answers.{UnlessMemory, seen}
use Rattle.bt_text.specs.Blanks.{IsBlank, SkipsBlanks}
use Rattle.bt_text.specs.Lines.{line, line_feeds}
use Rattle.bt_text.specs.Whole.{EndsLines}
use Rattle.bt_net.specs.declared.network.Admitted.TheVariants.{Nothing}
use Rattle.bt_net.specs.Network.{Network}
use Rattle.bt_net.specs.Readings.{IsNetRead}
use Rattle.bt_net.proofs.Longer.{stays_refused}
use Rattle.bt_designs.specs.declared.fault.DesignFault.{DesignFault}
use Rattle.bt_designs.specs.declared.fault.DesignFault.TheVariants as design
use Rattle.bt_designs.specs.declared.held.Held.{Held}
use Rattle.bt_designs.specs.declared.refusal.Refusal.{Refusal}
use Rattle.bt_designs.specs.declared.refusal.Refusal.TheVariants as refusal
use Rattle.bt_designs.specs.Designs.{IsJsonText, IsDesign, IsBareDesign, IsTieredBlueprint, in_basic_belts}
use Rattle.bt_designs.specs.Longer.{IsOtherText, IsSettled}
use Rattle.bt_designs.specs.Requested.{IsPinned}
use Rattle.bt_designs.specs.Told.{MayFollow, LastsBehind, IsAtHand, TellsFront}
use Rattle.bt_designs.specs.inner.ToldParts.{IsToldText, IsToldPart, IsTextPart, IsIndented, RestsOnEnd, IsSettledFault, TellsFault, TellsRead}
use Rattle.bt_designs.specs.inner.Moved.{moved, moved_told, moved_refusal, IsFaultWithin}
use Rattle.bt_designs.proofs.Blanks.{nil_of}
use Rattle.bt_designs.proofs.BlankDesigns.{design_behind, design_indented, design_fault_within, bare_behind, bare_indented, bare_fault_within, pinned_behind, pinned_indented, pinned_fault_within}
use Rattle.bt_designs.proofs.LongerDesigns.{Stays, design_stays, json_text_stays, not_json, other_text_stays, read_refused, refusal_stays, told_refused}
use Rattle.bt_designs.proofs.LongerRequests.{pinned_goes_on, pinned_refusal_stays}
use Rattle.bt_designs.proofs.TwoFollowed.{bare_goes_on}

-- ---- parts

-- text that is told has a byte
text_some : (part : List ℕ) → IsToldText part → 0 < length part
text_some part (inl (rest, s)) = omega (arith, ap length s.text_is, length-append s.blanks (123 ∷ rest))
text_some part (inr ((byte, rest, s, other), ends)) = omega (arith, ap length s.text_is, length-append s.blanks (byte ∷ rest))

-- what follows blanks, where that isn't JSON text, begins other text
other_text : (bytes text : List ℕ) → (IsJsonText bytes → ⊥) → SkipsBlanks bytes text → 0 < length text → IsOtherText bytes
other_text bytes [] none skips some = absurd (omega (arith, some))
other_text bytes (byte ∷ text) none skips some = (byte, text, skips, λ same. none (text, subst (λ b. SkipsBlanks bytes (b ∷ text)) same skips))

module _ (held : Held) where
  -- and all is told where the input has ended
  ended_part : held.ended ≡ true → (IsJsonText held.bytes.now ⊎ (held.skipped ≡ 0)) → IsToldPart held held.bytes.now
  ended_part e behind = record { rest = []; bytes_are = sym (append-nil held.bytes.now); kind = inl (e, refl); behind = behind }

  lines_are_other : (lines : List ℕ) → EndsLines held.bytes.now lines → (IsJsonText held.bytes.now → ⊥) → IsJsonText lines → ⊥
  lines_are_other lines ends other is = other (subst IsJsonText (sym ends.text_is) (json_text_stays lines ends.rest is))

  -- and of other text the lines that have their line feeds, where they aren't blanks
  lines_part : (lines text : List ℕ) → held.ended ≡ false → held.skipped ≡ 0 → (IsJsonText held.bytes.now → ⊥) → EndsLines held.bytes.now lines → SkipsBlanks lines text → 0 < length text → IsToldPart held lines
  lines_part lines text goes none other ends skips some = record {
    rest = ends.rest;
    bytes_are = ends.text_is;
    kind = inr (goes, inr (other_text lines text (lines_are_other lines ends other) skips some, whole ends.whole));
    behind = inr none;
  }
    where
      whole : (lines ≡ []) ⊎ ((front : List ℕ) × (lines ≡ line front)) → (front : List ℕ) × (lines ≡ line front)
      whole (inl empty) = absurd (omega (arith, some, ap length empty, ap length skips.text_is, length-append skips.blanks text))
      whole (inr is) = is

  -- other text behind blanks that were dropped
  indented_at_end : 0 < held.skipped → (IsJsonText held.bytes.now → ⊥) → held.ended ≡ true → IsIndented held
  indented_at_end some none e = record {
    some = some;
    other = λ more may is. none (subst IsJsonText (ap (λ m. held.bytes.now ++ m) (may e) ∙ append-nil held.bytes.now) is);
    at_hand = inl e;
  }

  indented_before : (lines text : List ℕ) → 0 < held.skipped → (IsJsonText held.bytes.now → ⊥) → EndsLines held.bytes.now lines → SkipsBlanks lines text → 0 < length text → IsIndented held
  indented_before lines text some none ends skips byte = record {
    some = some;
    other = λ more may is.
        other_text_stays lines (ends.rest ++ more) (other_text lines text (lines_are_other lines ends none) skips byte)
        (subst IsJsonText (ap (λ b. b ++ more) ends.text_is ∙ append_assoc lines ends.rest more) is);
    at_hand = inr (omega (arith, byte, ap length skips.text_is, length-append skips.blanks text, ap length ends.text_is, length-append lines ends.rest));
  }

  -- the part of other text
  pub text_at_end : (IsJsonText held.bytes.now → ⊥) → held.ended ≡ true → IsTextPart held held.bytes.now
  text_at_end none e = (λ zero. ended_part e (inr zero), λ some. indented_at_end some none e)

  pub text_before : (lines text : List ℕ) → (IsJsonText held.bytes.now → ⊥) → held.ended ≡ false → EndsLines held.bytes.now lines → SkipsBlanks lines text → 0 < length text → IsTextPart held lines
  text_before lines text none goes ends skips byte =
      (λ zero. lines_part lines text goes zero none ends skips byte, λ some. indented_before lines text some none ends skips byte)

-- ---- what is read of a part

-- what is read at the front of bytes is read of longer ones, where it doesn't rest on where they end; and behind
-- blanks, so many bytes later, where it is JSON text, and else it is refused there
pub record IsLasting {X : Type 0} (IsFront : List ℕ → Result (X × ℕ) DesignFault → Type 0) (Settled : List ℕ → DesignFault → Type 0) : Type 0 where
  pub goes_on : (bytes more : List ℕ) (found : X × ℕ) → IsFront bytes (Ok found) → found.1 < length bytes → IsFront (bytes ++ more) (Ok found)
  pub stays : (bytes more : List ℕ) (fault : DesignFault) → Settled bytes fault → IsFront bytes (Err fault) → IsFront (bytes ++ more) (Err fault)
  pub behind : (blanks bytes : List ℕ) (answer : Result (X × ℕ) DesignFault) → All IsBlank blanks → IsJsonText bytes → IsFront bytes answer → IsFront (blanks ++ bytes) (moved (length blanks) answer)
  pub indented : (blanks bytes : List ℕ) → All IsBlank blanks → 0 < length blanks → (IsJsonText bytes → ⊥) → IsFront (blanks ++ bytes) (Err (design.Refused (refusal.NetLine 1)))

moved_refusal_none : (n : ℕ) (r : Refusal) → n ≡ 0 → moved_refusal n r ≡ r
moved_refusal_none n (refusal.Json at) e = let m : n + at ≡ at = omega (arith, e) in ap refusal.Json m
moved_refusal_none n (refusal.Deep at) e = let m : n + at ≡ at = omega (arith, e) in ap refusal.Deep m
moved_refusal_none n (refusal.DuplicateKey at) e = let m : n + at ≡ at = omega (arith, e) in ap refusal.DuplicateKey m
moved_refusal_none n r e = refl

moved_none : {X : Type 0} (n : ℕ) (answer : Result (X × ℕ) DesignFault) → n ≡ 0 → moved n answer ≡ answer
moved_none n (Ok found) e = let m : n + found.1 ≡ found.1 = omega (arith, e) in ap (λ k. Ok (found.0, k)) m
moved_none n (Err (design.Refused r)) e = ap (λ x. Err (design.Refused x)) (moved_refusal_none n r e)
moved_none n (Err design.Memory) e = refl

module _ {X : Type 0} (IsFront : List ℕ → Result (X × ℕ) DesignFault → Type 0) (Settled : List ℕ → DesignFault → Type 0) (laws : IsLasting IsFront Settled) (held : Held) where
  -- what is refused whatever is wanted
  pub indented_behind : IsIndented held → LastsBehind IsFront held (Err (design.Refused (refusal.NetLine 1)))
  indented_behind i = λ blanks are counted more may.
      subst (λ b. IsFront b (Err (design.Refused (refusal.NetLine 1)))) (sym (append_assoc blanks held.bytes.now more))
      (laws.indented blanks (held.bytes.now ++ more) are (omega (arith, i.some, counted)) (i.other more may))

  module _ (part : List ℕ) (told : IsToldPart held part) where
    longer : (more : List ℕ) → held.bytes.now ++ more ≡ part ++ (told.rest ++ more)
    longer more = ap (λ b. b ++ more) told.bytes_are ∙ append_assoc part told.rest more

    on : (answer : Result (X × ℕ) DesignFault) → IsFront part answer → (held.ended ≡ false → IsToldText part → (more : List ℕ) → IsFront (part ++ more) answer) → (more : List ℕ) → MayFollow held.ended more → IsFront (held.bytes.now ++ more) answer
    on answer h stays more may = by told.kind
      where
        by : ((held.ended ≡ true) × (told.rest ≡ [])) ⊎ ((held.ended ≡ false) × IsToldText part) → IsFront (held.bytes.now ++ more) answer
        by (inl (e, none)) =
            subst (λ b. IsFront b answer) (sym (longer more ∙ ap (λ r. part ++ (r ++ more)) none ∙ ap (λ m. part ++ m) (may e) ∙ append-nil part)) h
        by (inr (goes, text)) = subst (λ b. IsFront b answer) (sym (longer more)) (stays goes text (told.rest ++ more))

    later : (answer : Result (X × ℕ) DesignFault) (more : List ℕ) → IsFront (held.bytes.now ++ more) answer → (blanks : List ℕ) → All IsBlank blanks → length blanks ≡ held.skipped
        → IsFront ((blanks ++ held.bytes.now) ++ more) (moved held.skipped answer)
    later answer more h blanks are counted = by told.behind
      where
        by : IsJsonText part ⊎ (held.skipped ≡ 0) → IsFront ((blanks ++ held.bytes.now) ++ more) (moved held.skipped answer)
        by (inl json) =
            let is : IsJsonText (held.bytes.now ++ more) = subst IsJsonText (sym (longer more)) (json_text_stays part (told.rest ++ more) json) in
            subst (λ b. IsFront b (moved held.skipped answer)) (sym (append_assoc blanks held.bytes.now more))
            (subst (λ n. IsFront (blanks ++ (held.bytes.now ++ more)) (moved n answer)) counted (laws.behind blanks (held.bytes.now ++ more) answer are is h))
        by (inr none) =
            subst (λ b. IsFront ((b ++ held.bytes.now) ++ more) (moved held.skipped answer)) (sym (nil_of blanks (omega (arith, counted, none))))
            (subst (IsFront (held.bytes.now ++ more)) (sym (moved_none held.skipped answer none)) h)

    -- something is there, or the input has ended
    pub at_hand : IsAtHand held.ended held.bytes.now
    at_hand = by told.kind
      where
        by : ((held.ended ≡ true) × (told.rest ≡ [])) ⊎ ((held.ended ≡ false) × IsToldText part) → IsAtHand held.ended held.bytes.now
        by (inl (e, none)) = inl e
        by (inr (goes, text)) = inr (omega (arith, text_some part text, ap length told.bytes_are, length-append part told.rest))

    -- the part is no longer than the bytes
    pub part_within : length part ≤ length held.bytes.now
    part_within = omega (arith, ap length told.bytes_are, length-append part told.rest)

    -- what is found there, and ends before the part does unless the input has ended
    pub found_behind : (x : X) (used : ℕ) → IsFront part (Ok (x, used)) → (held.ended ≡ false → used < length part) → LastsBehind IsFront held (Ok (x, held.skipped + used))
    found_behind x used h few = λ blanks are counted more may.
        later (Ok (x, used)) more (on (Ok (x, used)) h (λ goes text rest. laws.goes_on part rest (x, used) h (few goes)) more may) blanks are counted

    -- a refusal there, which doesn't rest on the end of the part unless the input has ended
    pub fault_behind : (fault : DesignFault) → IsFront part (Err fault) → (held.ended ≡ false → IsToldText part → Settled part fault) → LastsBehind IsFront held (Err (moved_told held.skipped fault))
    fault_behind fault h settled = λ blanks are counted more may.
        later (Err fault) more (on (Err fault) h (λ goes text rest. laws.stays part rest fault (settled goes text) h) more may) blanks are counted

    fault_told : {D : Type 0} (of : D → X × ℕ) (fault : DesignFault) → UnlessMemory design.Memory (IsFront part) (Err fault) → (held.ended ≡ false → IsToldText part → (r : Refusal) → fault ≡ design.Refused r → Settled part fault)
        → TellsFront IsFront of held (Err (moved_told held.skipped fault))
    fault_told of design.Memory h settled = tt
    fault_told of (design.Refused r) (inl h) settled = (at_hand, fault_behind (design.Refused r) h (λ goes text. settled goes text r refl))
    fault_told of (design.Refused r) (inr e) settled = absurd cc

    -- why there is nothing, where that is told
    pub fault_tells : {D : Type 0} (of : D → X × ℕ) (fault told_fault : DesignFault) → UnlessMemory design.Memory (IsFront part) (Err fault) → TellsFault held part fault (Some told_fault)
        → (IsToldText part → (r : Refusal) → fault ≡ design.Refused r → held.ended ≡ false → (RestsOnEnd part r → ⊥) → Settled part fault) → TellsFront IsFront of held (Err told_fault)
    fault_tells of fault told_fault h tells settles =
        subst (λ (x : DesignFault). TellsFront IsFront of held (Err x)) (sym tells.0)
        (fault_told of fault h (λ goes text r is. settles text r is goes (subst (IsSettledFault part) is (tells.1 goes))))

    -- what a part tells of what was read of it is told of the front
    pub read_tells : {D : Type 0} (of : D → X × ℕ) (read : Result D DesignFault) (answer : Result (Option D) DesignFault) → UnlessMemory design.Memory (IsFront part) (seen of read)
        → IfOk read (λ d. (of d).1 ≤ length part) → TellsRead (λ d. (of d).1) held part read answer
        → (IsToldText part → (r : Refusal) (fault : DesignFault) → fault ≡ design.Refused r → (RestsOnEnd part r → ⊥) → Settled part fault) → TellsFront IsFront of held answer
    read_tells of (Ok read) (Ok (Some d)) h within tells settles =
        subst (λ x. TellsFront IsFront of held (Ok (Some x))) (sym tells.0) (
          at_hand,
          omega (arith, part_within, within),
          found_behind (of read).0 (of read).1 h (λ goes. subst (λ x. (of x).1 < length part) tells.0 (tells.1 goes)),
        )
    read_tells of (Ok read) (Ok None) h within tells settles = tells
    read_tells of (Ok read) (Err told_fault) h within tells settles = absurd tells
    read_tells of (Err fault) (Ok (Some d)) h within tells settles = absurd tells
    read_tells of (Err fault) (Ok None) h within tells settles = tells
    read_tells of (Err fault) (Err told_fault) h within tells settles = fault_tells of fault told_fault h tells (λ text r is goes other. settles text r fault is other)

-- ---- designs and requests

design_goes_on : (bytes more : List ℕ) (found : Network × ℕ) → IsDesign bytes (Ok found) → found.1 < length bytes → IsDesign (bytes ++ more) (Ok found)
design_goes_on bytes more found h few = by (design_stays bytes found.0 found.1 h)
  where
    by : Stays bytes found.0 found.1 → IsDesign (bytes ++ more) (Ok found)
    by (inl stays) = stays more
    by (inr (all, fed)) = absurd (omega (arith, all, few))

pub designs_last : IsLasting IsDesign IsSettled
designs_last = record {
  goes_on = design_goes_on;
  stays = refusal_stays;
  behind = λ blanks bytes answer are is h. design_behind blanks bytes are answer is h;
  indented = λ blanks bytes are some other. design_indented blanks bytes are some other;
}

pub pinned_last : IsLasting IsPinned IsSettled
pinned_last = record {
  goes_on = pinned_goes_on;
  stays = pinned_refusal_stays;
  behind = λ blanks bytes answer are is h. pinned_behind blanks bytes are answer is h;
  indented = λ blanks bytes are some other. pinned_indented blanks bytes are some other;
}

-- a settled refusal of a bare design is that of all longer bytes
bare_stays : (bytes more : List ℕ) (fault : DesignFault) → IsSettled bytes fault → IsBareDesign bytes (Err fault) → IsBareDesign (bytes ++ more) (Err fault)
bare_stays bytes more fault (inl (is, other)) (inl h) = inl (json_text_stays bytes more is, told_refused IsTieredBlueprint in_basic_belts bytes more fault is other h.1)
bare_stays bytes more fault (inl (is, other)) (inr h) = absurd (h.0 is)
bare_stays bytes more fault (inr (text, (lines, e), other)) (inl h) = absurd (not_json bytes text h.0)
bare_stays bytes more fault (inr (text, (lines, e), other)) (inr h) =
    inr (other_text_stays bytes more text, read_refused (IsNetRead Nothing) (stays_refused Nothing) (λ read. (read.net, read.used)) bytes more lines fault e other h.1)

pub bare_last : IsLasting IsBareDesign IsSettled
bare_last = record {
  goes_on = λ bytes more found h few. bare_goes_on bytes found.0 found.1 h more few;
  stays = bare_stays;
  behind = λ blanks bytes answer are is h. bare_behind blanks bytes are answer is h;
  indented = λ blanks bytes are some other. bare_indented blanks bytes are some other;
}

-- ---- refusals

same_refusal : (r s : Refusal) → design.Refused r ≡ design.Refused s → r ≡ s
same_refusal r s e = cc

-- a refusal that doesn't rest on the end of the part is settled
pub settled : (part : List ℕ) → IsToldText part → (r : Refusal) (fault : DesignFault) → fault ≡ design.Refused r → (RestsOnEnd part r → ⊥) → IsSettled part fault
settled part text r fault is other = subst (IsSettled part) (sym is) (by text)
  where
    by : IsToldText part → IsSettled part (design.Refused r)
    by (inl json) = inl (json, λ e. other (subst (RestsOnEnd part) (sym (same_refusal r (refusal.Json (length part)) e)) refl))
    by (inr (begins, ends)) = inr (begins, ends, λ e. other (subst (RestsOnEnd part) (sym (same_refusal r (refusal.NetLine (line_feeds part + 1)) e)) refl))

-- a refusal isn't want of memory
pub refused_so : {V : Type 0} (P : Result V DesignFault → Type 0) (r : Refusal) → UnlessMemory design.Memory P (Err (design.Refused r)) → P (Err (design.Refused r))
refused_so P r (inl h) = h
refused_so P r (inr e) = absurd cc

-- ---- how far offsets may be moved

within_more : (m n : ℕ) (fault : DesignFault) → m ≤ n → IsFaultWithin m fault → IsFaultWithin n fault
within_more m n (design.Refused (refusal.Json at)) le h = omega (arith, le, h)
within_more m n (design.Refused (refusal.Deep at)) le h = omega (arith, le, h)
within_more m n (design.Refused (refusal.DuplicateKey at)) le h = omega (arith, le, h)
within_more m n (design.Refused r) le h = h
within_more m n design.Memory le h = tt

module _ (part : List ℕ) (n : ℕ) (few : length part ≤ n) (fault : DesignFault) where
  memory_within : fault ≡ design.Memory → IsFaultWithin n fault
  memory_within e = subst (IsFaultWithin n) (sym e) tt

  pub design_within : UnlessMemory design.Memory (IsDesign part) (Err fault) → IsFaultWithin n fault
  design_within (inl h) = within_more (length part) n fault few (design_fault_within part fault h)
  design_within (inr e) = memory_within e

  pub pinned_within : UnlessMemory design.Memory (IsPinned part) (Err fault) → IsFaultWithin n fault
  pinned_within (inl h) = within_more (length part) n fault few (pinned_fault_within part fault h)
  pinned_within (inr e) = memory_within e

  pub bare_within : UnlessMemory design.Memory (IsBareDesign part) (Err fault) → IsFaultWithin n fault
  bare_within (inl h) = within_more (length part) n fault few (bare_fault_within part fault h)
  bare_within (inr e) = memory_within e

-- ---- what was read of a part

module _ {X D : Type 0} (IsFront : List ℕ → Result (X × ℕ) DesignFault → Type 0) (of : D → X × ℕ) (part : List ℕ) where
  -- of a fault an offset is within a limit, where it is of each one that is right
  pub read_within : (n : ℕ) (read : Result D DesignFault) → ((fault : DesignFault) → UnlessMemory design.Memory (IsFront part) (Err fault) → IsFaultWithin n fault)
      → UnlessMemory design.Memory (IsFront part) (seen of read) → IfErr read (IsFaultWithin n)
  read_within n (Ok d) by h = tt
  read_within n (Err fault) by h = by fault h

  -- what is told has what all that is found there has
  pub read_has : (P : X → Type 0) (held : Held) (read : Result D DesignFault) (answer : Result (Option D) DesignFault) → UnlessMemory design.Memory (IsFront part) (seen of read)
      → TellsRead (λ d. (of d).1) held part read answer → ((found : X × ℕ) → IsFront part (Ok found) → P found.0) → IfOk answer (λ o. IfSome o (λ d. P (of d).0))
  read_has P held (Ok read) (Ok (Some d)) h tells has = subst (λ x. P (of x).0) (sym tells.0) (has (of read) h)
  read_has P held (Ok read) (Ok None) h tells has = tt
  read_has P held (Ok read) (Err told) h tells has = absurd tells
  read_has P held (Err fault) (Ok (Some d)) h tells has = absurd tells
  read_has P held (Err fault) (Ok None) h tells has = tt
  read_has P held (Err fault) (Err told) h tells has = tt
