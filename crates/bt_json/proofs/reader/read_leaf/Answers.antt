use Rattle.std.proofs.Common.{◌≡◌, ◌+◌, [], ◌∷◌, None, true, false, arith, ap, sym, ◌∙◌}
use Rattle.bt_json.specs.Json.{boolean, null}
use Rattle.bt_json.specs.inner.Frames.{frame_begun}
use Rattle.bt_json.specs.inner.Reading.{due, in_text, between, as_value, in_number, numeral, in_word}
use Rattle.bt_json.specs.declared.kind.Kind.TheVariants.{ListOpens, ObjectOpens, Quote, Minus, LetterT, LetterF, LetterN}
use Rattle.bt_json.specs.declared.kind.Phase.TheVariants.{BeforeWhole}
use Rattle.bt_json.proofs.Levels.{due_at}
use Rattle.bt_json.proofs.FrameSteps.{begins_number, token_breaks, tree_moved}
use Rattle.bt_json.proofs.reader.read_leaf.Goals as goal

pub returns-in-Quote-clause-read : goal.returns-in-Quote-clause-read
returns-in-Quote-clause-read c =
    let bs = c.args.bytes.now in
    let at = c.args.start in
    tree_moved bs at (at + 1) (λ k. due k) (λ k. in_text [] None between as_value k) c.read_text.result (omega arith)
    (λ k. due_at bs at k Quote c.requires.token.within (c.requires.token.is ∙ c.in-Quote.is)) c.read_text.ensures.read

pub returns-in-Minus-clause-read : goal.returns-in-Minus-clause-read
returns-in-Minus-clause-read c =
    let bs = c.args.bytes.now in
    let at = c.args.start in
    tree_moved bs at (at + 1) (λ k. due k) (λ k. in_number BeforeWhole (numeral true []) k) c.read_number.result (omega arith)
    (λ k. due_at bs at k Minus c.requires.token.within (c.requires.token.is ∙ c.in-Minus.is)) c.read_number.ensures.read

pub returns-in-Digit-clause-read : goal.returns-in-Digit-clause-read
returns-in-Digit-clause-read c =
    let bs = c.args.bytes.now in
    let at = c.args.start in
    tree_moved bs at at (λ k. due k) (λ k. in_number BeforeWhole (numeral false []) k) c.read_number-in-Digit.result (omega arith)
    (λ k. begins_number bs at k c.requires.token.within (c.requires.token.is ∙ c.in-Digit.is)) c.read_number-in-Digit.ensures.read

pub returns-in-LetterT-clause-read : goal.returns-in-LetterT-clause-read
returns-in-LetterT-clause-read c =
    let bs = c.args.bytes.now in
    let at = c.args.start in
    tree_moved bs at (at + 1) (λ k. due k) (λ k. in_word (114 ∷ 117 ∷ 101 ∷ []) (boolean true) k) c.read_bool.result (omega arith)
    (λ k. due_at bs at k LetterT c.requires.token.within (c.requires.token.is ∙ c.in-LetterT.is)) c.read_bool.ensures.read

pub returns-in-LetterF-clause-read : goal.returns-in-LetterF-clause-read
returns-in-LetterF-clause-read c =
    let bs = c.args.bytes.now in
    let at = c.args.start in
    tree_moved bs at (at + 1) (λ k. due k) (λ k. in_word (97 ∷ 108 ∷ 115 ∷ 101 ∷ []) (boolean false) k) c.read_bool-in-LetterF.result (omega arith)
    (λ k. due_at bs at k LetterF c.requires.token.within (c.requires.token.is ∙ c.in-LetterF.is)) c.read_bool-in-LetterF.ensures.read

pub returns-in-LetterN-clause-read : goal.returns-in-LetterN-clause-read
returns-in-LetterN-clause-read c =
    let bs = c.args.bytes.now in
    let at = c.args.start in
    tree_moved bs at (at + 1) (λ k. due k) (λ k. in_word (117 ∷ 108 ∷ 108 ∷ []) null k) c.read_null.result (omega arith)
    (λ k. due_at bs at k LetterN c.requires.token.within (c.requires.token.is ∙ c.in-LetterN.is)) c.read_null.ensures.read

pub returns-in_default : goal.returns-in_default
returns-in_default c =
    let d = c.in_default in
    let none = c.requires.leaf in
    record {
      read = λ k. token_breaks c.args.bytes.now c.args.start c.args.kind k c.requires.token (record {
        blank = c.requires.token.no_blank;
        list = λ e. let opens : frame_begun ListOpens ≡ None = sym (ap frame_begun e) ∙ none in cc;
        object = λ e. let opens : frame_begun ObjectOpens ≡ None = sym (ap frame_begun e) ∙ none in cc;
        quote = d.not-Quote;
        minus = d.not-Minus;
        digit = d.not-Digit;
        t = d.not-LetterT;
        f = d.not-LetterF;
        n = d.not-LetterN;
      });
      full = tt;
    }
