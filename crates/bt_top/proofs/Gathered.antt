-- What was gathered of a source, block by block.
use Rattle.std.proofs.Common.{◌≡◌, ◌⊎◌, ℕ, ◌+◌, ◌-◌, ◌<◌, true, false, List, [], ◌++◌, length, Option, Some, None, Result, Ok, Err, sym, ◌∙◌, ap, subst, inl, inr, arith, append_assoc, append-nil, length-append}
use Rattle.std.specs.Prelude.{All, MatchOption}
use Rattle.std.specs.Io.KnownBytes.{Consumes}
use Rattle.std.proofs.KnownBytes.{Consumes-nil, Consumes-trans}
use Rattle.std.proofs.lemmas.List.Elements.{All-nil, All-append}
use Rattle.bt_text.specs.Blanks.{IsBlank}
use Rattle.bt_io.specs.Bytes.{ReadsAll}
use Rattle.bt_io.specs.Passages.{Passage, passage}
use Rattle.bt_io.specs.declared.fault.ReadAll.{ReadAll}
use Rattle.bt_io.specs.declared.fault.ReadAll.TheVariants.{ReadFault, TooLong, Memory}
use Rattle.bt_io.proofs.Behind.{fault_behind, memory_behind, long_behind}
use Rattle.bt_print.specs.declared.answer.Answer.{Answer}
use Rattle.bt_top.specs.declared.front.Front.{Front}
use Rattle.bt_designs.specs.declared.held.Gathered.{Gathered}
use Rattle.bt_designs.specs.declared.held.Held.{Held}
use Rattle.bt_designs.specs.declared.held.TheConstants.{MOST_CHECKED}
use Rattle.bt_print.specs.Replies.{Reply}
use Rattle.bt_designs.specs.Told.{MayFollow}
use Rattle.bt_top.specs.inner.Fronts.{AnswersLeft, AnswersRest, GivesHeldFront, IsFrontOf, IsReply}
use Rattle.bt_designs.specs.Gathering.{IsGathered}
use Rattle.bt_top.specs.inner.Gathering.{IsGatheredOf}
use Rattle.bt_top.proofs.Fronts.{answers_behind, left_weaker}

-- ---- many reads

module _ {S : Type 0} (left : S → Option (List ℕ)) (faults : S → ℕ) where
  -- nothing was gathered yet
  pub gathered_none : (s : S) (g : Gathered) → g.skipped ≡ 0 → g.bytes.items ≡ [] → g.ended ≡ false → IsGatheredOf (passage left faults s s) g
  gathered_none s g skipped none goes = record {
    blanks = [];
    are_blanks = All-nil IsBlank;
    counted = sym skipped;
    taken = subst (Consumes (left s) (left s)) (sym none) (Consumes-nil (left s));
    few = let l = ap length none in omega (arith, skipped, l);
    at_end = λ e. absurd (let no : false ≡ true = sym goes ∙ e in cc);
    count = omega arith;
  }

  module _ (first second third : S) (old : Gathered) (so_far : IsGatheredOf (passage left faults first second) old) where
    taken : (new : Gathered) (g : IsGathered old (passage left faults second third) new) → Consumes (left first) (left third) ((so_far.blanks ++ old.bytes.items) ++ g.piece)
    taken new g = Consumes-trans (left first) (left second) (left third) (so_far.blanks ++ old.bytes.items) g.piece so_far.taken g.taken

    -- the source was read on
    pub gathered_on : (new : Gathered) → IsGathered old (passage left faults second third) new → IsGatheredOf (passage left faults first third) new
    gathered_on new g = by g.kept
      where
        by : ((new.skipped ≡ old.skipped) × (new.bytes.items ≡ old.bytes.items ++ g.piece))
            ⊎ (All IsBlank (old.bytes.items ++ g.piece) × (new.skipped ≡ old.skipped + length (old.bytes.items ++ g.piece)) × (new.bytes.items ≡ []))
            → IsGatheredOf (passage left faults first third) new
        by (inl (skipped, bytes)) = record {
          blanks = so_far.blanks;
          are_blanks = so_far.are_blanks;
          counted = so_far.counted ∙ sym skipped;
          taken = subst (Consumes (left first) (left third)) (append_assoc so_far.blanks old.bytes.items g.piece ∙ ap (λ b. so_far.blanks ++ b) (sym bytes)) (taken new g);
          few = g.few;
          at_end = g.at_end;
          count = omega (arith, so_far.count, g.count);
        }
        by (inr (blank, skipped, none)) = record {
          blanks = so_far.blanks ++ (old.bytes.items ++ g.piece);
          are_blanks = All-append IsBlank so_far.blanks (old.bytes.items ++ g.piece) so_far.are_blanks blank;
          counted = let l = length-append so_far.blanks (old.bytes.items ++ g.piece) in omega (arith, l, so_far.counted, skipped);
          taken = subst (Consumes (left first) (left third))
              (append_assoc so_far.blanks old.bytes.items g.piece ∙ sym (append-nil (so_far.blanks ++ (old.bytes.items ++ g.piece))) ∙ ap (λ b. (so_far.blanks ++ (old.bytes.items ++ g.piece)) ++ b) (sym none)) (taken new g);
          few = g.few;
          at_end = g.at_end;
          count = omega (arith, so_far.count, g.count);
        }

    long : length (so_far.blanks ++ old.bytes.items) ≡ old.skipped + length old.bytes.items
    long = let l = length-append so_far.blanks old.bytes.items in omega (arith, l, so_far.counted)

    full : length (so_far.blanks ++ old.bytes.items) + (MOST_CHECKED - (old.skipped + length old.bytes.items)) ≡ MOST_CHECKED
    full = omega (arith, long, so_far.few)

    -- or could not be
    pub gathered_not : (Right : List ℕ → Reply → Type 0) (fault : ReadAll) → ReadsAll (MOST_CHECKED - (old.skipped + length old.bytes.items)) (passage left faults second third) (Err fault)
        → AnswersLeft Right MOST_CHECKED (passage left faults first third) (Err fault)
    gathered_not Right ReadFault r = fault_behind left faults first second third (so_far.blanks ++ old.bytes.items) MOST_CHECKED (MOST_CHECKED - (old.skipped + length old.bytes.items)) so_far.taken (omega (arith, full)) so_far.count r
    gathered_not Right TooLong r = long_behind left faults first second third (so_far.blanks ++ old.bytes.items) MOST_CHECKED (MOST_CHECKED - (old.skipped + length old.bytes.items)) so_far.taken (omega (arith, full)) so_far.count full r
    gathered_not Right Memory r = memory_behind left faults first second third (so_far.blanks ++ old.bytes.items) MOST_CHECKED (MOST_CHECKED - (old.skipped + length old.bytes.items)) so_far.taken (omega (arith, full)) so_far.count r

    -- the answer that a front of what was gathered tells
    pub front_answered : (Right : List ℕ → Reply → Type 0) (f : Front) (limit : ℕ) (result : Result Answer ReadAll) → limit ≡ MOST_CHECKED - (old.skipped + length old.bytes.items) → IsFrontOf Right old.ended (so_far.blanks ++ old.bytes.items) f
        → AnswersRest old.ended (IsReply f) limit (passage left faults second third) result → AnswersLeft Right MOST_CHECKED (passage left faults first third) result
    front_answered Right f limit result rest is h =
        answers_behind left faults first second third (so_far.blanks ++ old.bytes.items) MOST_CHECKED limit so_far.taken (omega (arith, full, rest)) so_far.count Right result
        (left_weaker (λ more reply. MayFollow old.ended more × IsReply f more reply) (λ more reply. Right ((so_far.blanks ++ old.bytes.items) ++ more) reply) limit (passage left faults second third) result
        (λ more reply both. is.1 more reply both.0 both.1) h)

-- more was taken, where the source goes on
pub grows : (old new : Gathered) (source : Passage) → IsGathered old source new → new.ended ≡ false → old.skipped + length old.bytes.items < new.skipped + length new.bytes.items
grows old new source g goes = by g.kept some
  where
    some : 0 < length g.piece
    some = of g.more
      where
        of : (new.ended ≡ true) ⊎ (0 < length g.piece) → 0 < length g.piece
        of (inl e) = absurd (let no : false ≡ true = sym goes ∙ e in cc)
        of (inr more) = more

    by : ((new.skipped ≡ old.skipped) × (new.bytes.items ≡ old.bytes.items ++ g.piece))
        ⊎ (All IsBlank (old.bytes.items ++ g.piece) × (new.skipped ≡ old.skipped + length (old.bytes.items ++ g.piece)) × (new.bytes.items ≡ []))
        → 0 < length g.piece → old.skipped + length old.bytes.items < new.skipped + length new.bytes.items
    by (inl (skipped, bytes)) more = let l = ap length bytes in let both = length-append old.bytes.items g.piece in omega (arith, skipped, l, both, more)
    by (inr (blank, skipped, none)) more = let both = length-append old.bytes.items g.piece in omega (arith, skipped, both, more)

module _ (source : Passage) (g : Gathered) (so_far : IsGatheredOf source g) where
  -- memory ran out
  pub memory_gathered : ReadsAll MOST_CHECKED source (Err Memory)
  memory_gathered = record {
    read = (so_far.blanks ++ g.bytes.items, so_far.taken, let l = length-append so_far.blanks g.bytes.items in omega (arith, l, so_far.counted, so_far.few));
    count = so_far.count;
  }

  module _ (Right : List ℕ → Reply → Type 0) (held : Held) (skipped : held.skipped ≡ g.skipped) (bytes : held.bytes.now ≡ g.bytes.items) (ended : held.ended ≡ g.ended) (told : Option Front) (gives : GivesHeldFront Right held (Ok told)) where
    given : MatchOption told (g.ended ≡ false) (λ f. IsFrontOf Right g.ended (so_far.blanks ++ g.bytes.items) f)
    given =
        subst (λ e. MatchOption told (e ≡ false) (λ f. IsFrontOf Right e (so_far.blanks ++ g.bytes.items) f)) ended
        (subst (λ b. MatchOption told (held.ended ≡ false) (λ f. IsFrontOf Right held.ended (so_far.blanks ++ b) f)) bytes (gives so_far.blanks so_far.are_blanks (so_far.counted ∙ sym skipped)))

    -- a front of what was gathered
    pub front_gathered : (f : Front) → told ≡ Some f → IsFrontOf Right g.ended (so_far.blanks ++ g.bytes.items) f
    front_gathered f is = subst (λ o. MatchOption o (g.ended ≡ false) (λ x. IsFrontOf Right g.ended (so_far.blanks ++ g.bytes.items) x)) is given

    -- or the source goes on
    pub open_gathered : told ≡ None → g.ended ≡ false
    open_gathered is = subst (λ o. MatchOption o (g.ended ≡ false) (λ x. IsFrontOf Right g.ended (so_far.blanks ++ g.bytes.items) x)) is given
