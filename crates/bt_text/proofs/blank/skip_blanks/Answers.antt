use Rattle.std.proofs.Common.{◌≡◌, ℕ, ◌<◌, List, length, get_or, take, drop, sym, arith, take-append-drop, get_or-drop, length-drop, add-zero, subst}
use Rattle.std.specs.List.{All}
use Rattle.std.proofs.lemmas.List.{take_rest}
use Rattle.bt_text.specs.Blanks.{IsBlank, SkipsBlanks}
use Rattle.bt_text.proofs.blank.skip_blanks.Goals as goal

-- the rest from a place up to which there are only blanks, and where none stands
skips : (xs : List ℕ) (i : ℕ) → All IsBlank (take i xs) → (i < length xs → ¬ IsBlank (get_or xs i 0)) → SkipsBlanks xs (drop i xs)
skips xs i before here = record {
  blanks = take i xs;
  are_blanks = before;
  text_is = sym (take-append-drop i xs);
  no_more = λ some. rw (get_or-drop i xs 0 0, add-zero i) (here (omega (arith, length-drop i xs)));
}

pub returns-then-not-is_blank : goal.returns-then-not-is_blank
returns-then-not-is_blank c = rw (take_rest c.args.text.now c.loop-i.i) (skips c.args.text.now c.loop-i.i c.loop-i.invariant (λ below blank. absurd (cc (c.is_blank.ensures.1 blank))))

pub returns : goal.returns
returns c =
    let all : c.loop-i.i ≡ length c.args.text.now = omega arith in
    rw (take_rest c.args.text.now (length c.args.text.now)) (skips c.args.text.now (length c.args.text.now) (subst (λ n. All IsBlank (take n c.args.text.now)) all c.loop-i.invariant) (λ below. absurd (omega arith)))
