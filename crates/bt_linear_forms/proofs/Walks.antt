-- The walk over two lines: what is written so far, and what is left of both.
use Rattle.std.proofs.Common.{◌≡◌, ◌≢◌, ◌⊎◌, inl, inr, ℕ, ◌+◌, ◌-◌, ◌*◌, ◌^◌, ◌<◌, ◌≤◌, arith, pos, ◌*ℤ◌, [], ◌∷◌, ◌++◌, Option, Some, None, ap, sym, ◌∙◌, refl, subst, append_assoc, append-nil}
use Rattle.std.specs.List.{All}
use Rattle.std.proofs.lemmas.List.Elements.{All-head, All-tail, All-cons, All-nil}
use Rattle.std.proofs.Math.IntN.{zero-*ℤ}
use Rattle.bt_frac.specs.Ratio.{Ratio, SameRatio, IsLowest}
use Rattle.bt_frac.specs.Values.{AreValues, nothing, plus, times}
use Rattle.bt_linear_forms.specs.Lines.{Terms, HasNumber, IsLine, IsLineFrom, IsCombination, total}
use Rattle.bt_farkas.specs.WeightedRows.{coefficient_at}
use Rattle.bt_linear_forms.specs.inner.Steps.{IsTail, IsStep, term_total}
use Rattle.bt_linear_forms.specs.Unfits.{IsUnfitStep, IsUnfitHere, IsUnfit}
use Rattle.bt_linear_forms.specs.declared.unfit.Operation.{Operation}
use Rattle.bt_linear_forms.specs.declared.unfit.Operation.TheVariants.{Add, Mul, Div}
use Rattle.bt_linear_forms.specs.declared.unfit.Unfit.{Unfit}
use Rattle.bt_linear_forms.proofs.NamedTerms.{number_here, number_later, named_from}
use Rattle.bt_linear_forms.proofs.Numbers.{Positive, nothing_some, Alike, alike, itself, back, next, both_plus, group_plus, swap_plus, drop_zero, plus_positive, times_positive, times_zero}
use Rattle.bt_linear_forms.proofs.Totals.{total_positive, rest_line}

-- what is written grows by a term
pub total_push : (at : ℕ → Ratio) → AreValues at → (terms : Terms) (t : ℕ × Ratio) → All HasNumber terms → Positive t.1
    → Alike (total at (terms ++ t ∷ [])) (plus (total at terms) (times t.1 (at t.0)))
total_push at values [] t all some = swap_plus (times t.1 (at t.0)) nothing (times_positive t.1 (at t.0) some (values t.0)) nothing_some
total_push at values (u ∷ terms) t all some =
    let here = All-head HasNumber u terms all in
    let rest = All-tail HasNumber u terms all in
    let ua = times_positive u.1 (at u.0) here.0.positive (values u.0) in
    let ta = times_positive t.1 (at t.0) some (values t.0) in
    next (both_plus (itself (times u.1 (at u.0)) ua) (total_push at values terms t rest some))
    (back (group_plus (times u.1 (at u.0)) (total at terms) (times t.1 (at t.0)) ua (total_positive at values terms rest) ta))

-- a line that starts later starts here too
pub starts_before : (least least' : ℕ) (terms : Terms) → least ≤ least' → IsLineFrom least' terms → IsLineFrom least terms
starts_before least least' [] h line = record { ascends = tt; numbers = line.numbers }
starts_before least least' (t ∷ terms) h line = record { ascends = (omega arith, line.ascends.1, line.ascends.2); numbers = line.numbers }

pub line_cons : (least : ℕ) (t : ℕ × Ratio) (terms : Terms) (place : ℕ) → least ≤ place → t.0 ≡ place → place < 2 ^ 64 - 1 → HasNumber t → IsLineFrom (place + 1) terms → IsLineFrom least (t ∷ terms)
line_cons least t terms place h e fits number line =
    record {
      ascends = (omega arith, omega arith, (subst (λ n. IsLineFrom (n + 1) terms) (sym e) line).ascends);
      numbers = All-cons HasNumber t terms number line.numbers;
    }

-- the sum of two lines, the second times a number
abbrev pub sum_of : (ℕ → Ratio) → Terms → Ratio → Terms → Ratio
sum_of at left factor right = plus (total at left) (times factor (total at right))

-- the numbers of the second list are those of the first
abbrev pub Keeps : Terms → Terms → Type 0
Keeps terms rest = (q : ℕ) (number : Ratio) → coefficient_at q rest ≡ Some number → coefficient_at q terms ≡ Some number

-- what is left of a line keeps its numbers
tail_keeps : (least : ℕ) (terms rest : Terms) → IsLineFrom least terms → IsTail terms rest → Keeps terms rest
tail_keeps least terms rest line (inl same) q number named = ap (λ l. coefficient_at q l) (sym same) ∙ named
tail_keeps least terms rest line (inr (t, is)) q number named =
    let line' = subst (λ l. IsLineFrom least l) is line in
    let after : t.0 + 1 ≤ q = named_from q (t.0 + 1) rest number (rest_line least t rest line') named in
    let apart : t.0 ≢ q = λ e. omega arith in
    ap (λ l. coefficient_at q l) is ∙ number_later t rest q apart ∙ named

-- a product or a sum that doesn't fit in what is left of both lines doesn't fit in these
pub kept_unfit : (left : Terms) (factor : Ratio) (right first second : Terms) (unfit : Unfit) → Keeps left first → Keeps right second → IsUnfit first factor second unfit → IsUnfit left factor right unfit
kept_unfit left factor right first second unfit keeps keeps' (by, named, (column, none, step)) =
    (by, keeps' unfit.column by named, (column, none, kept unfit.operation step))
  where
    kept : (operation : Operation) → IsUnfitStep (coefficient_at unfit.column first) factor by operation unfit.left unfit.right
        → IsUnfitStep (coefficient_at unfit.column left) factor by operation unfit.left unfit.right
    kept Add h = (keeps unfit.column unfit.left h.0, h.1, h.2)
    kept Mul h = h
    kept Div h = h

-- at the first positions of both lines
pub unfit_right : (left : Terms) (factor : Ratio) (right : Terms) (second : ℕ × Ratio) (rest : Terms) (number : Option Ratio) (unfit : Unfit) → right ≡ second ∷ rest
    → (number ≡ None ⊎ (coefficient_at second.0 left ≡ number)) → IsUnfitHere second.0 number factor second.1 unfit → IsUnfit left factor right unfit
unfit_right left factor right second rest number unfit is has (column, none, step) =
    (second.1, ap (λ l. coefficient_at unfit.column l) is ∙ number_here second rest unfit.column (sym column), (refl, none, here unfit.operation has step))
  where
    here : (operation : Operation) → (number ≡ None ⊎ (coefficient_at second.0 left ≡ number)) → IsUnfitStep number factor second.1 operation unfit.left unfit.right
        → IsUnfitStep (coefficient_at unfit.column left) factor second.1 operation unfit.left unfit.right
    here Add (inl e) h = let both = h.0 in absurd cc
    here Add (inr e) h = (ap (λ p. coefficient_at p left) column ∙ e ∙ h.0, h.1, h.2)
    here Mul e h = h
    here Div e h = h

-- what is written, with what is left of both lines, is what both lines are
pub record IsWalk (left : Terms) (factor : Ratio) (right written first second : Terms) : Type 0 where
  pub end : ℕ
  pub extends : (more : Terms) → IsLineFrom end more → IsLineFrom 0 (written ++ more)
  pub first_line : IsLineFrom end first
  pub second_line : IsLineFrom end second
  pub first_named : Keeps left first
  pub second_named : Keeps right second
  pub same : (at : ℕ → Ratio) → AreValues at → Alike (plus (total at written) (sum_of at first factor second)) (sum_of at left factor right)

sum_positive : (at : ℕ → Ratio) → AreValues at → (left : Terms) (factor : Ratio) (right : Terms) → Positive factor → All HasNumber left → All HasNumber right → Positive (sum_of at left factor right)
sum_positive at values left factor right some all all' =
    plus_positive (total at left) (times factor (total at right)) (total_positive at values left all)
    (times_positive factor (total at right) some (total_positive at values right all'))

pub walk_begins : (left : Terms) (factor : Ratio) (right : Terms) → IsLowest factor → IsLine left → IsLine right → IsWalk left factor right [] left right
walk_begins left factor right low line line' = record {
  end = 0;
  extends = λ more h. h;
  first_line = line;
  second_line = line';
  first_named = λ q number named. named;
  second_named = λ q number named. named;
  same = λ at values. drop_zero nothing (sum_of at left factor right) nothing_some (sum_positive at values left factor right low.positive line.numbers line'.numbers) refl;
}

written_all : (written : Terms) (end : ℕ) → ((more : Terms) → IsLineFrom end more → IsLineFrom 0 (written ++ more)) → IsLineFrom 0 written
written_all written end extends = subst (λ l. IsLineFrom 0 l) (append-nil written) (extends [] (record { ascends = tt; numbers = All-nil HasNumber }))

module _ (left : Terms) (factor : Ratio) (right written first second first' second' : Terms) (low : IsLowest factor) where
  -- what a step changes of the sums
  stepped : (term : Option (ℕ × Ratio)) → IsWalk left factor right written first second → IsStep first factor second term first' second'
      → IsLineFrom 0 written → (end : ℕ) → IsLineFrom end first' → IsLineFrom end second' → (at : ℕ → Ratio) → AreValues at → Positive (term_total at term)
      → Alike (plus (plus (total at written) (term_total at term)) (sum_of at first' factor second')) (sum_of at left factor right)
  stepped term walk step line end after after' at values some =
      let w = total_positive at values written line.numbers in
      let rest = sum_positive at values first' factor second' low.positive after.numbers after'.numbers in
      let whole = sum_positive at values first factor second low.positive walk.first_line.numbers walk.second_line.numbers in
      next (group_plus (total at written) (term_total at term) (sum_of at first' factor second') w some rest)
      (next (both_plus (itself (total at written) w)
      (back (alike (sum_of at first factor second) (plus (term_total at term) (sum_of at first' factor second')) whole
      (plus_positive (term_total at term) (sum_of at first' factor second') some rest)
      (step.sums at values walk.first_line.numbers walk.second_line.numbers))))
      (walk.same at values))

  pub walk_stays : IsWalk left factor right written first second → IsStep first factor second None first' second' → IsWalk left factor right written first' second'
  walk_stays walk step =
      let n = step.order walk.end walk.first_line walk.second_line in
      let line = written_all written walk.end walk.extends in
      record {
        end = n.place + 1;
        extends = λ more h. walk.extends more (starts_before walk.end (n.place + 1) more (let r = n.reached in omega arith) h);
        first_line = n.left_after;
        second_line = n.right_after;
        first_named = λ q number named. walk.first_named q number (tail_keeps walk.end first first' walk.first_line step.left_tail q number named);
        second_named = λ q number named. walk.second_named q number (tail_keeps walk.end second second' walk.second_line step.right_tail q number named);
        same = λ at values.
            let w = total_positive at values written line.numbers in
            next (both_plus (next (back (drop_zero nothing (total at written) nothing_some w refl)) (swap_plus nothing (total at written) nothing_some w))
            (itself (sum_of at first' factor second') (sum_positive at values first' factor second' low.positive n.left_after.numbers n.right_after.numbers)))
            (stepped None walk step line (n.place + 1) n.left_after n.right_after at values nothing_some);
      }

  pub walk_grows : (t : ℕ × Ratio) → IsWalk left factor right written first second → IsStep first factor second (Some t) first' second'
      → IsWalk left factor right (written ++ t ∷ []) first' second'
  walk_grows t walk step =
      let n = step.order walk.end walk.first_line walk.second_line in
      let line = written_all written walk.end walk.extends in
      let number : HasNumber t = n.named.1 in
      record {
        end = n.place + 1;
        extends = λ more h.
            subst (λ l. IsLineFrom 0 l) (sym (append_assoc written (t ∷ []) more))
            (walk.extends (t ∷ more) (line_cons walk.end t more n.place n.reached n.named.0 n.fits number h));
        first_line = n.left_after;
        second_line = n.right_after;
        first_named = λ q number named. walk.first_named q number (tail_keeps walk.end first first' walk.first_line step.left_tail q number named);
        second_named = λ q number named. walk.second_named q number (tail_keeps walk.end second second' walk.second_line step.right_tail q number named);
        same = λ at values.
            next (both_plus (total_push at values written t line.numbers number.0.positive)
            (itself (sum_of at first' factor second') (sum_positive at values first' factor second' low.positive n.left_after.numbers n.right_after.numbers)))
            (stepped (Some t) walk step line (n.place + 1) n.left_after n.right_after at values (times_positive t.1 (at t.0) number.0.positive (values t.0)));
      }

pub walk_line : (left : Terms) (factor : Ratio) (right written first second : Terms) → IsWalk left factor right written first second → IsLine written
walk_line left factor right written first second walk = written_all written walk.end walk.extends

-- a walk to the end of both lines has written their sum
pub walk_ends : (left : Terms) (factor : Ratio) (right written first second : Terms) → IsLowest factor → first ≡ [] → second ≡ [] → IsWalk left factor right written first second → IsCombination left factor right written
walk_ends left factor right written first second low none none' walk at values =
    let w = total_positive at values written (walk_line left factor right written first second walk).numbers in
    let ended = subst (λ f. Alike (plus (total at written) (sum_of at f factor [])) (sum_of at left factor right)) none
    (subst (λ s. Alike (plus (total at written) (sum_of at first factor s)) (sum_of at left factor right)) none' (walk.same at values)) in
    let fn = times_positive factor nothing low.positive nothing_some in
    let empty = plus_positive nothing (times factor nothing) nothing_some fn in
    let zero : Alike (sum_of at [] factor []) nothing =
    next (drop_zero nothing (times factor nothing) nothing_some fn refl) (alike (times factor nothing) nothing fn nothing_some (zero_is factor)) in
    (next (back (next (both_plus (itself (total at written) w) zero) (next (swap_plus (total at written) nothing w nothing_some) (drop_zero nothing (total at written) nothing_some w refl)))) ended).same
  where
    zero_is : (f : Ratio) → SameRatio (times f nothing) nothing
    zero_is f = ap (λ z. z *ℤ pos 1) (times_zero f nothing refl) ∙ zero-*ℤ (pos 1) ∙ sym (zero-*ℤ (pos (f.under * 1)))
