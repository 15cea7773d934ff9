use Rattle.std.proofs.Common.{arith, ◌≡◌, ◌+◌, ◌-◌, suc, ◌∷◌, [], Some, get_or, sym, ap, ◌∙◌, subst, IsUtf8}
use Rattle.std.specs.Prelude.{option_map}
use Rattle.std.proofs.lemmas.Result.{err_from_is_err_and}
use Rattle.bt_json.specs.inner.Reading.{lead_of, tail, between}
use Rattle.bt_json.specs.inner.Running.{rest_of, within, with_plain}
use Rattle.bt_json.specs.inner.Tails.{place_of}
use Rattle.bt_json.proofs.Characters.{two_bytes, three_bytes, four_bytes, wide_utf8, more_than}
use Rattle.bt_json.proofs.Texts.{Leads, lead_breaks, lead_goes_on, tail_breaks, second_read, third_read, fourth_read, two_at, three_at, four_at}
use Rattle.bt_json.proofs.text.character_end.Goals as goal

pub returns-in_default-clause-err : goal.returns-in_default-clause-err
returns-in_default-clause-err c = λ t. lead_breaks c.args.bytes.now c.args.start t c.requires.within c.requires.wide (ap (option_map place_of) (sym c.in_default.is) ∙ c.tail_of.ensures)

pub returns-in_err-check_byte-clause-err : goal.returns-in_err-check_byte-clause-err
returns-in_err-check_byte-clause-err c =
    let bs = c.args.bytes.now in
    let at = c.args.start in
    let tl = c.in-Some.tail in
    let lead : Some (place_of tl) ≡ lead_of (get_or bs at 0) = ap (option_map place_of) (sym c.in-Some.is) ∙ c.tail_of.ensures in
    let p = err_from_is_err_and c.from_residual.result c.from_residual.ensures.1 in
    rw (p.1, p.2, c.in_err-check_byte.ensures.err.0) (λ t.
    lead_goes_on bs at t (place_of tl) c.requires.within c.requires.wide lead
    ∙ tail_breaks bs (at + 1) (with_plain t (get_or bs at 0 ∷ [])) tl.low tl.top tl.more c.in_err-check_byte.ensures.err.1)

pub returns-then-tail-eq0-clause-utf8 : goal.returns-then-tail-eq0-clause-utf8
returns-then-tail-eq0-clause-utf8 c =
    let bs = c.args.bytes.now in
    let at = c.args.start in
    let tl = c.in-Some.tail in
    let lead : Some (place_of tl) ≡ lead_of (get_or bs at 0) = ap (option_map place_of) (sym c.in-Some.is) ∙ c.tail_of.ensures in
    let n : tl.more ≡ 0 = c.if-tail-eq0.true in
    let lead0 : lead_of (get_or bs at 0) ≡ Some (tail tl.low tl.top 0) = sym (subst (λ m. Some (tail tl.low tl.top m) ≡ lead_of (get_or bs at 0)) n lead) in
    let w = wide_utf8 _ (two_bytes (get_or bs at 0) (get_or bs (at + 1) 0) tl.low tl.top lead0 c.in_ok-check_byte.ensures.ok.1 c.in_ok-check_byte.ensures.ok.2) in
    subst IsUtf8 (sym (two_at bs at c.in_ok-check_byte.ensures.ok.0)) w

pub returns-then-tail-eq0-clause-ok : goal.returns-then-tail-eq0-clause-ok
returns-then-tail-eq0-clause-ok c = λ t.
    let bs = c.args.bytes.now in
    let at = c.args.start in
    let tl = c.in-Some.tail in
    let lead : Some (place_of tl) ≡ lead_of (get_or bs at 0) = ap (option_map place_of) (sym c.in-Some.is) ∙ c.tail_of.ensures in
    let l : Leads bs at tl.low tl.top tl.more = record { within_bytes = c.in_ok-check_byte.ensures.ok.0; wide = c.requires.wide; lead = lead; lows = c.in_ok-check_byte.ensures.ok.1; tops = c.in_ok-check_byte.ensures.ok.2 } in
    let n : tl.more ≡ 0 = c.if-tail-eq0.true in
    let l0 = subst (Leads bs at tl.low tl.top) n l in
    second_read bs at tl.low tl.top 0 t l0 ∙ ap (λ plain. rest_of bs (at + 2) (within (with_plain t plain) between)) (sym (two_at bs at c.in_ok-check_byte.ensures.ok.0))

pub returns-in_err-check_byte-2-clause-err : goal.returns-in_err-check_byte-2-clause-err
returns-in_err-check_byte-2-clause-err c =
    let bs = c.args.bytes.now in
    let at = c.args.start in
    let tl = c.in-Some.tail in
    let lead : Some (place_of tl) ≡ lead_of (get_or bs at 0) = ap (option_map place_of) (sym c.in-Some.is) ∙ c.tail_of.ensures in
    let l : Leads bs at tl.low tl.top tl.more = record { within_bytes = c.in_ok-check_byte.ensures.ok.0; wide = c.requires.wide; lead = lead; lows = c.in_ok-check_byte.ensures.ok.1; tops = c.in_ok-check_byte.ensures.ok.2 } in
    let n : tl.more ≡ suc (tl.more - 1) = omega (arith, c.if-tail-eq0.false) in
    let l1 = subst (Leads bs at tl.low tl.top) n l in
    let p = err_from_is_err_and c.from_residual-in_err-check_byte-2.result c.from_residual-in_err-check_byte-2.ensures.1 in
    rw (p.1, p.2, c.in_err-check_byte-2.ensures.err.0) (λ t.
    second_read bs at tl.low tl.top (suc (tl.more - 1)) t l1
    ∙ tail_breaks bs (at + 2) (with_plain t (get_or bs at 0 ∷ get_or bs (at + 1) 0 ∷ [])) 128 191 (tl.more - 1) c.in_err-check_byte-2.ensures.err.1)

pub returns-then-tail-eq1-clause-utf8 : goal.returns-then-tail-eq1-clause-utf8
returns-then-tail-eq1-clause-utf8 c =
    let bs = c.args.bytes.now in
    let at = c.args.start in
    let tl = c.in-Some.tail in
    let lead : Some (place_of tl) ≡ lead_of (get_or bs at 0) = ap (option_map place_of) (sym c.in-Some.is) ∙ c.tail_of.ensures in
    let n : tl.more ≡ 1 = c.if-tail-eq1.true in
    let lead1 : lead_of (get_or bs at 0) ≡ Some (tail tl.low tl.top 1) = sym (subst (λ m. Some (tail tl.low tl.top m) ≡ lead_of (get_or bs at 0)) n lead) in
    let o = c.in_ok-check_byte-2.ensures.ok in
    let w = wide_utf8 _ (three_bytes (get_or bs at 0) (get_or bs (at + 1) 0) (get_or bs (at + 2) 0) tl.low tl.top lead1 c.in_ok-check_byte.ensures.ok.1 c.in_ok-check_byte.ensures.ok.2 o.1 o.2) in
    subst IsUtf8 (sym (three_at bs at o.0)) w

pub returns-then-tail-eq1-clause-ok : goal.returns-then-tail-eq1-clause-ok
returns-then-tail-eq1-clause-ok c = λ t.
    let bs = c.args.bytes.now in
    let at = c.args.start in
    let tl = c.in-Some.tail in
    let lead : Some (place_of tl) ≡ lead_of (get_or bs at 0) = ap (option_map place_of) (sym c.in-Some.is) ∙ c.tail_of.ensures in
    let l : Leads bs at tl.low tl.top tl.more = record { within_bytes = c.in_ok-check_byte.ensures.ok.0; wide = c.requires.wide; lead = lead; lows = c.in_ok-check_byte.ensures.ok.1; tops = c.in_ok-check_byte.ensures.ok.2 } in
    let n : tl.more ≡ 1 = c.if-tail-eq1.true in
    let l1 = subst (Leads bs at tl.low tl.top) n l in
    let o = c.in_ok-check_byte-2.ensures.ok in
    third_read bs at tl.low tl.top 0 t l1 o.0 o.1 o.2 ∙ ap (λ plain. rest_of bs (at + 3) (within (with_plain t plain) between)) (sym (three_at bs at o.0))

pub returns-in_err-check_byte-3-clause-err : goal.returns-in_err-check_byte-3-clause-err
returns-in_err-check_byte-3-clause-err c =
    let bs = c.args.bytes.now in
    let at = c.args.start in
    let tl = c.in-Some.tail in
    let lead : Some (place_of tl) ≡ lead_of (get_or bs at 0) = ap (option_map place_of) (sym c.in-Some.is) ∙ c.tail_of.ensures in
    let l : Leads bs at tl.low tl.top tl.more = record { within_bytes = c.in_ok-check_byte.ensures.ok.0; wide = c.requires.wide; lead = lead; lows = c.in_ok-check_byte.ensures.ok.1; tops = c.in_ok-check_byte.ensures.ok.2 } in
    let most = more_than (get_or bs at 0) tl.low tl.top tl.more (sym lead) in
    let n : tl.more ≡ 2 = omega (arith, c.if-tail-eq0.false, c.if-tail-eq1.false) in
    let l2 = subst (Leads bs at tl.low tl.top) n l in
    let o = c.in_ok-check_byte-2.ensures.ok in
    let p = err_from_is_err_and c.from_residual-in_err-check_byte-3.result c.from_residual-in_err-check_byte-3.ensures.1 in
    rw (p.1, p.2, c.in_err-check_byte-3.ensures.err.0) (λ t.
    third_read bs at tl.low tl.top 1 t l2 o.0 o.1 o.2
    ∙ tail_breaks bs (at + 3) (with_plain t (get_or bs at 0 ∷ get_or bs (at + 1) 0 ∷ get_or bs (at + 2) 0 ∷ [])) 128 191 0 c.in_err-check_byte-3.ensures.err.1)

pub returns-clause-utf8 : goal.returns-clause-utf8
returns-clause-utf8 c =
    let bs = c.args.bytes.now in
    let at = c.args.start in
    let tl = c.in-Some.tail in
    let lead : Some (place_of tl) ≡ lead_of (get_or bs at 0) = ap (option_map place_of) (sym c.in-Some.is) ∙ c.tail_of.ensures in
    let most = more_than (get_or bs at 0) tl.low tl.top tl.more (sym lead) in
    let n : tl.more ≡ 2 = omega (arith, c.if-tail-eq0.false, c.if-tail-eq1.false) in
    let lead2 : lead_of (get_or bs at 0) ≡ Some (tail tl.low tl.top 2) = sym (subst (λ m. Some (tail tl.low tl.top m) ≡ lead_of (get_or bs at 0)) n lead) in
    let o = c.in_ok-check_byte-2.ensures.ok in
    let o3 = c.in_ok-check_byte-3.ensures.ok in
    let w = wide_utf8 _ (four_bytes (get_or bs at 0) (get_or bs (at + 1) 0) (get_or bs (at + 2) 0) (get_or bs (at + 3) 0) tl.low tl.top lead2 c.in_ok-check_byte.ensures.ok.1 c.in_ok-check_byte.ensures.ok.2 o.1 o.2 o3.1 o3.2) in
    subst IsUtf8 (sym (four_at bs at o3.0)) w

pub returns-clause-ok : goal.returns-clause-ok
returns-clause-ok c = λ t.
    let bs = c.args.bytes.now in
    let at = c.args.start in
    let tl = c.in-Some.tail in
    let lead : Some (place_of tl) ≡ lead_of (get_or bs at 0) = ap (option_map place_of) (sym c.in-Some.is) ∙ c.tail_of.ensures in
    let l : Leads bs at tl.low tl.top tl.more = record { within_bytes = c.in_ok-check_byte.ensures.ok.0; wide = c.requires.wide; lead = lead; lows = c.in_ok-check_byte.ensures.ok.1; tops = c.in_ok-check_byte.ensures.ok.2 } in
    let most = more_than (get_or bs at 0) tl.low tl.top tl.more (sym lead) in
    let n : tl.more ≡ 2 = omega (arith, c.if-tail-eq0.false, c.if-tail-eq1.false) in
    let l2 = subst (Leads bs at tl.low tl.top) n l in
    let o = c.in_ok-check_byte-2.ensures.ok in
    let o3 = c.in_ok-check_byte-3.ensures.ok in
    fourth_read bs at tl.low tl.top 0 t l2 o.0 o.1 o.2 o3.0 o3.1 o3.2 ∙ ap (λ plain. rest_of bs (at + 4) (within (with_plain t plain) between)) (sym (four_at bs at o3.0))
