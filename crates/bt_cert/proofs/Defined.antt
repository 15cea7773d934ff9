-- The definitions at the front of a certificate: they are one list, and how far they were read.
use Rattle.std.proofs.Common.{◌≡◌, ◌≢◌, ℕ, ◌-◌, ◌<◌, ◌≤◌, ◌⊎◌, List, [], ◌∷◌, ◌++◌, Bool, true, false, length, Some, Result, Ok, Err, OnOk, refl, sym, ◌∙◌, ap, subst, inl, inr, arith, append_assoc, append-nil, length-append}
use Rattle.std.specs.List.{flat_map}
use Rattle.std.proofs.lemmas.Bool.{cases_lt, false≢true}
use Rattle.std.proofs.lemmas.Grind.{flat_map-append}
use Rattle.std.proofs.lemmas.List.{length_push}
use Rattle.std.proofs.lemmas.List.Elements.{All-nil, All-append}
use Rattle.bt_text.specs.Lines.{Lacks, SplitsAt, IsFirstLine}
use Rattle.bt_text.proofs.FirstLines.{IsFirstLine-unique}
use Rattle.bt_cnf.specs.Formulas.{FormulaParts}
use Rattle.bt_extend.specs.Extending.{with_definition, extended, AreDefinitions}
use Rattle.bt_extend.specs.Texts.{definition_text, definition_line, IsDefinitionRead}
use Rattle.bt_extend.specs.declared.definition.Definition.{Definition}
use Rattle.bt_extend.specs.declared.definition.Definition.TheVariants.{Comparison, Cases, Disjunction}
use Rattle.bt_extend.proofs.OneDefinition.{definition_same}
use Rattle.bt_extend.proofs.InLine.{definition_in_line}
use Rattle.bt_cert.specs.Certificates.{MayStand, NoneComesFirst, AreDefined}
use Rattle.bt_cert.specs.inner.Defining.{DefiningParts, GoesOn, MayAllStand, HasDefined, DefinesOn, ReachesSteps, IsDefined, MaySo, DefinesNothing, TakesLine, TakesLastLine}
use Rattle.bt_cert.specs.declared.defining.TheConstants.{MOST_DEFINITIONS}

-- ---- one list of definitions

-- where no definition may come, none comes
none_more : (most : ℕ) (f : FormulaParts) (text : List ℕ) (d : Definition) (ds : List Definition) (rest : List ℕ) → (most ≡ 0) ⊎ NoneComesFirst f text
    → AreDefined most f text (d ∷ ds) rest → ⊥
none_more most f text d ds rest (inl full) h = let some = h.0 in omega (arith, full, some)
none_more most f text d ds rest (inr none) h = none d h.1 h.2

-- the definitions at the front of a text are one list
pub one_defined : (most : ℕ) (f : FormulaParts) (text : List ℕ) (ds es : List Definition) (rest other : List ℕ) → AreDefined most f text ds rest
    → AreDefined most f text es other → (ds ≡ es) × (rest ≡ other)
one_defined most f text [] [] rest other p q = (refl, p.0 ∙ sym q.0)
one_defined most f text [] (e ∷ es) rest other p q = absurd (none_more most f text e es other p.1 q)
one_defined most f text (d ∷ ds) [] rest other p q = absurd (none_more most f text d ds rest q.1 p)
one_defined most f text (d ∷ ds) (e ∷ es) rest other p q =
    let lines = IsFirstLine-unique text (definition_text d) (definition_text e) p.1 q.1 p.2.1 q.2.1 in
    let same : d ≡ e = definition_same d e p.2.0.written q.2.0.written lines.0 in
    let here : AreDefined (most - 1) (with_definition f e) q.1 ds rest =
    subst (λ after. AreDefined (most - 1) (with_definition f e) after ds rest) lines.1 (subst (λ x. AreDefined (most - 1) (with_definition f x) p.1 ds rest) same p.3) in
    let more = one_defined (most - 1) (with_definition f e) q.1 ds es rest other here q.3 in
    (ap (λ x. x ∷ ds) same ∙ ap (λ xs. e ∷ xs) more.0, more.1)

-- each may extend the formula with those before it
pub are_definitions : (most : ℕ) (f : FormulaParts) (text : List ℕ) (ds : List Definition) (rest : List ℕ) → AreDefined most f text ds rest → AreDefinitions f ds
are_definitions most f text [] rest h = tt
are_definitions most f text (d ∷ ds) rest h = (h.2.0.defines, are_definitions (most - 1) (with_definition f d) h.1 ds rest h.3)

-- ---- lines of definitions

-- definitions, line by line, and those of what follows
pub lines_defined : (most : ℕ) (f : FormulaParts) (ds es : List Definition) (rest last : List ℕ) → MayAllStand f ds → length ds ≤ most
    → AreDefined (most - length ds) (extended f ds) rest es last → AreDefined most f (flat_map definition_line ds ++ rest) (ds ++ es) last
lines_defined most f [] es rest last stand few h =
    let whole : most - 0 ≡ most = omega arith in subst (λ m. AreDefined m f rest es last) whole h
lines_defined most f (d ∷ ds) es rest last stand few h =
    let fewer : most - length (d ∷ ds) ≡ (most - 1) - length ds = omega (arith, few) in
    let lines = flat_map definition_line ds in (
      omega (arith, few),
      lines ++ rest,
      (
        stand.0,
        inl (record {
          first = definition_in_line d stand.0.written;
          text_is = append_assoc (definition_line d) lines rest ∙ append_assoc (definition_text d) (10 ∷ []) (lines ++ rest);
        }),
      ),
      lines_defined (most - 1) (with_definition f d) ds es rest last stand.1 (omega (arith, few))
          (subst (λ m. AreDefined m (extended (with_definition f d) ds) rest es last) fewer h),
    )

some_text : (d : Definition) → [] ≡ definition_text d → ⊥
some_text (Comparison form) e = absurd cc
some_text (Cases var first second) e = absurd cc
some_text (Disjunction lits) e = absurd cc

-- no definition comes where nothing does
none_in_nothing : (f : FormulaParts) → NoneComesFirst f []
none_in_nothing f d after c = some_text d (IsFirstLine-unique [] [] (definition_text d) [] after (inr (All-nil (λ b. b ≢ 10), refl, refl)) c.1).0

-- or where another line does
none_at_line : (f : FormulaParts) (text line after : List ℕ) → IsFirstLine text line after → DefinesNothing f line → NoneComesFirst f text
none_at_line f text line after is nothing d behind c = nothing d c.0 (IsFirstLine-unique text line (definition_text d) after behind is c.1).0

extended_push : (f : FormulaParts) (ds : List Definition) (d : Definition) → extended f (ds ++ d ∷ []) ≡ with_definition (extended f ds) d
extended_push f [] d = refl
extended_push f (e ∷ ds) d = extended_push (with_definition f e) ds d

stand_push : (f : FormulaParts) (ds : List Definition) (d : Definition) → MayAllStand f ds → MayStand (extended f ds) d → MayAllStand f (ds ++ d ∷ [])
stand_push f [] d all stand = (stand, tt)
stand_push f (e ∷ ds) d all stand = (all.0, stand_push (with_definition f e) ds d all.1 stand)

lines_push : (ds : List Definition) (d : Definition) → flat_map definition_line (ds ++ d ∷ []) ≡ flat_map definition_line ds ++ definition_line d
lines_push ds d =
    flat_map-append definition_line ds (d ∷ []) ∙ ap (λ l. flat_map definition_line ds ++ l) (append-nil (definition_line d))

-- ---- how far definitions were read

-- no more definitions may come
pub reaches : (f : FormulaParts) (text : List ℕ) (now : FormulaParts) (p : DefiningParts) → (GoesOn p → ⊥) → HasDefined f text now p → ReachesSteps f text now p
reaches f text now p done h = record {
  definitions = h.definitions;
  defined = defined;
  formula = h.formula;
  count = h.count;
}
  where
    lines : List ℕ
    lines = flat_map definition_line h.definitions

    stops : (more : List ℕ) (b : Bool) → p.stopped ≡ b → (MOST_DEFINITIONS - length h.definitions ≡ 0) ⊎ NoneComesFirst (extended f h.definitions) (p.part ++ more)
    stops more true is = inr (subst (λ g. NoneComesFirst g (p.part ++ more)) h.formula (h.stops is more))
    stops more false is =
        elim (cases_lt p.count MOST_DEFINITIONS) [
          | inl few ↦ absurd (done (record { stands = is; few = few }))
          | inr full ↦ inl (omega (arith, full, h.count))
        ]

    defined : (more : List ℕ) → AreDefined MOST_DEFINITIONS f (text ++ more) h.definitions (p.part ++ more)
    defined more =
        let text_is : text ++ more ≡ lines ++ (p.part ++ more) = ap (λ t. t ++ more) h.text_is ∙ append_assoc lines p.part more in
        subst (λ t. AreDefined MOST_DEFINITIONS f t h.definitions (p.part ++ more)) (sym text_is)
        (subst (λ ds. AreDefined MOST_DEFINITIONS f (lines ++ (p.part ++ more)) ds (p.part ++ more)) (append-nil h.definitions)
        (lines_defined MOST_DEFINITIONS f h.definitions [] (p.part ++ more) (p.part ++ more) h.stand h.few (refl, stops more p.stopped refl)))

-- more was kept
pub kept : (f : FormulaParts) (text : List ℕ) (now : FormulaParts) (p q : DefiningParts) (rest : List ℕ) → (GoesOn p → Lacks 10 rest)
    → q ≡ record p { part = p.part ++ rest } → HasDefined f text now p → HasDefined f (text ++ rest) now q
kept f text now p q rest lacks is h = subst (HasDefined f (text ++ rest) now) (sym is) (record {
  definitions = h.definitions;
  stand = h.stand;
  few = h.few;
  text_is = ap (λ t. t ++ rest) h.text_is ∙ append_assoc (flat_map definition_line h.definitions) p.part rest;
  formula = h.formula;
  count = h.count;
  goes_on = λ on. let so : GoesOn p = record { stands = on.stands; few = on.few } in All-append (λ b. b ≢ 10) p.part rest (h.goes_on so) (lacks so);
  stops = λ s more. subst (NoneComesFirst now) (sym (append_assoc p.part rest more)) (h.stops s (rest ++ more));
})

-- a line came that is of no definition
pub halted : (f : FormulaParts) (text : List ℕ) (now : FormulaParts) (p q : DefiningParts) (rest line after : List ℕ) → GoesOn p → SplitsAt 10 rest line after
    → DefinesNothing now (p.part ++ line) → q ≡ record p { part = p.part ++ rest; stopped = true } → HasDefined f text now p → HasDefined f (text ++ rest) now q
halted f text now p q rest line after on split nothing is h = subst (HasDefined f (text ++ rest) now) (sym is) (record {
  definitions = h.definitions;
  stand = h.stand;
  few = h.few;
  text_is = ap (λ t. t ++ rest) h.text_is ∙ append_assoc (flat_map definition_line h.definitions) p.part rest;
  formula = h.formula;
  count = h.count;
  goes_on = λ so. absurd (false≢true (sym so.stands));
  stops = λ s more. none_at_line now ((p.part ++ rest) ++ more) (p.part ++ line) (after ++ more) (inl (record {
    first = All-append (λ b. b ≢ 10) p.part line (h.goes_on on) split.first;
    text_is = ap (λ r. (p.part ++ r) ++ more) split.text_is ∙ simp append_assoc;
  })) nothing;
})

-- the line of a definition came
pub pushed : (f : FormulaParts) (text : List ℕ) (before after : FormulaParts) (old new : DefiningParts) (line : List ℕ) → GoesOn old
    → TakesLine before old line after new true → HasDefined f text before old → HasDefined f (text ++ (line ++ 10 ∷ [])) after new
pushed f text before after old new line on takes h = record {
  definitions = h.definitions ++ d ∷ [];
  stand = stand_push f h.definitions d h.stand (subst (λ g. MayStand g d) h.formula takes.0.1);
  few = omega (arith, on.few, h.count, length_push h.definitions d);
  text_is = text_is;
  formula = takes.0.3 ∙ ap (λ g. with_definition g d) h.formula ∙ sym (extended_push f h.definitions d);
  count = ap (λ (p : DefiningParts). p.count) takes.1 ∙ omega (arith, h.count, length_push h.definitions d);
  goes_on = λ so. subst (Lacks 10) (sym no_part) (All-nil (λ b. b ≢ 10));
  stops = λ s more. absurd (false≢true (sym on.stands ∙ sym (ap (λ (p : DefiningParts). p.stopped) takes.1) ∙ s));
}
  where
    d : Definition
    d = takes.0.0

    lines : List ℕ
    lines = flat_map definition_line h.definitions

    no_part : new.part ≡ []
    no_part = ap (λ (p : DefiningParts). p.part) takes.1

    text_is : text ++ (line ++ 10 ∷ []) ≡ flat_map definition_line (h.definitions ++ d ∷ []) ++ new.part
    text_is =
        ap (λ t. t ++ (line ++ 10 ∷ [])) h.text_is ∙ append_assoc lines old.part (line ++ 10 ∷ []) ∙ ap (λ t. lines ++ t) (sym (append_assoc old.part line (10 ∷ [])))
        ∙ ap (λ t. lines ++ (t ++ 10 ∷ [])) takes.0.2 ∙ sym (lines_push h.definitions d) ∙ sym (append-nil (flat_map definition_line (h.definitions ++ d ∷ [])))
        ∙ ap (λ t. flat_map definition_line (h.definitions ++ d ∷ []) ++ t) (sym no_part)

-- the last line came, which lacks its line feed
last_read : (f : FormulaParts) (text : List ℕ) (before after : FormulaParts) (old new : DefiningParts) (defines : Bool) → GoesOn old → TakesLine before old [] after new defines
    → HasDefined f text before old → IsDefined f text after new
last_read f text before after old new true on takes h = record {
  definitions = h.definitions ++ takes.0.0 ∷ [];
  defined = subst (λ t. AreDefined MOST_DEFINITIONS f t (h.definitions ++ takes.0.0 ∷ []) new.part) (sym h.text_is)
      (lines_defined MOST_DEFINITIONS f h.definitions (takes.0.0 ∷ []) old.part new.part h.stand h.few (
        omega (arith, on.few, h.count),
        [],
        (subst (λ g. MayStand g takes.0.0) h.formula takes.0.1, inr (h.goes_on on, sym (append-nil old.part) ∙ takes.0.2, refl)),
        (ap (λ (p : DefiningParts). p.part) takes.1, inr (none_in_nothing (with_definition (extended f h.definitions) takes.0.0))),
      ));
  formula = takes.0.3 ∙ ap (λ g. with_definition g takes.0.0) h.formula ∙ sym (extended_push f h.definitions takes.0.0);
  count = ap (λ (p : DefiningParts). p.count) takes.1 ∙ omega (arith, h.count, length_push h.definitions takes.0.0);
}
last_read f text before after old new false on takes h = record {
  definitions = h.definitions;
  defined = subst (λ t. AreDefined MOST_DEFINITIONS f t h.definitions new.part) (sym h.text_is)
      (subst (λ ds. AreDefined MOST_DEFINITIONS f (flat_map definition_line h.definitions ++ old.part) ds new.part) (append-nil h.definitions)
      (lines_defined MOST_DEFINITIONS f h.definitions [] old.part new.part h.stand h.few (
        ap (λ (p : DefiningParts). p.part) takes.1,
        inr (subst (λ g. NoneComesFirst g old.part) h.formula
            (none_at_line before old.part old.part [] (inr (h.goes_on on, refl, refl)) (subst (DefinesNothing before) (append-nil old.part) takes.0.0))),
      )));
  formula = takes.0.1 ∙ h.formula;
  count = ap (λ (p : DefiningParts). p.count) takes.1 ∙ h.count;
}

pub ends : (f : FormulaParts) (text : List ℕ) (before after : FormulaParts) (old new : DefiningParts) → GoesOn old → TakesLastLine before old after new
    → HasDefined f text before old → IsDefined f text after new
ends f text before after old new on takes h = last_read f text before after old new takes.0 on takes.1 h

-- one piece after another was read on
pub on_further : (a b c : FormulaParts) (p q r : DefiningParts) (front more : List ℕ) → DefinesOn a p front b q → DefinesOn b q more c r → DefinesOn a p (front ++ more) c r
on_further a b c p q r front more first second f text h =
    subst (λ t. HasDefined f t c r) (append_assoc text front more) (second f (text ++ front) (first f text h))

pub on_none : (a : FormulaParts) (p : DefiningParts) → DefinesOn a p [] a p
on_none a p f text h = subst (λ t. HasDefined f t a p) (sym (append-nil text)) h

-- ---- a piece, line by line

-- the front of a piece was read on, and this rest is left
pub record HasFront (a : FormulaParts) (p : DefiningParts) (piece : List ℕ) (b : FormulaParts) (q : DefiningParts) (rest : List ℕ) : Type 0 where
  pub front : List ℕ
  pub piece_is : piece ≡ front ++ rest
  pub reads : DefinesOn a p front b q

pub front_none : (a : FormulaParts) (p : DefiningParts) (piece : List ℕ) → HasFront a p piece a p piece
front_none a p piece = record { front = []; piece_is = refl; reads = on_none a p }

-- the line of a definition more
pub front_line : (a b c : FormulaParts) (p q r : DefiningParts) (piece rest line after : List ℕ) → HasFront a p piece b q rest → GoesOn q → SplitsAt 10 rest line after
    → TakesLine b q line c r true → HasFront a p piece c r after
front_line a b c p q r piece rest line after h on split takes = record {
  front = h.front ++ (line ++ 10 ∷ []);
  piece_is = h.piece_is ∙ ap (λ t. h.front ++ t) split.text_is ∙ simp append_assoc;
  reads = on_further a b c p q r h.front (line ++ 10 ∷ []) h.reads (λ f text d. pushed f text b c q r line on takes d);
}

-- the rest was kept
pub front_kept : (a b : FormulaParts) (p q r : DefiningParts) (piece rest : List ℕ) → HasFront a p piece b q rest → (GoesOn q → Lacks 10 rest)
    → r ≡ record q { part = q.part ++ rest } → DefinesOn a p piece b r
front_kept a b p q r piece rest h lacks is f text d =
    subst (λ t. HasDefined f (text ++ t) b r) (sym h.piece_is)
    (subst (λ t. HasDefined f t b r) (append_assoc text h.front rest) (kept f (text ++ h.front) b q r rest lacks is (h.reads f text d)))

-- the rest begins with a line that is of no definition
pub front_halted : (a b c : FormulaParts) (p q r s : DefiningParts) (piece rest line after : List ℕ) → HasFront a p piece b q rest → GoesOn q → SplitsAt 10 rest line after
    → TakesLine b q line c r false → s ≡ record r { part = r.part ++ rest; stopped = true } → DefinesOn a p piece c s
front_halted a b c p q r s piece rest line after h on split takes is f text d =
    let halt : DefiningParts → DefiningParts = λ x. record x { part = x.part ++ rest; stopped = true } in
    let same : s ≡ halt q = is ∙ ap halt takes.1 in
    let read : HasDefined f ((text ++ h.front) ++ rest) b s = halted f (text ++ h.front) b q s rest line after on split takes.0.0 same (h.reads f text d) in
    subst (λ g. HasDefined f (text ++ piece) g s) (sym takes.0.1)
    (subst (λ t. HasDefined f (text ++ t) b s) (sym h.piece_is) (subst (λ t. HasDefined f t b s) (append_assoc text h.front rest) read))

-- what follows a line is shorter
pub after_shorter : (rest line after : List ℕ) → SplitsAt 10 rest line after → length after < length rest
after_shorter rest line after split =
    let same : length rest ≡ length (line ++ 10 ∷ after) = ap length split.text_is in omega (arith, same, length-append line (10 ∷ after))

-- a definition that may not stand there is the only one of its line
pub defines_nothing : (f : FormulaParts) (line : List ℕ) (d : Definition) → IsDefinitionRead line (Some d) → (MaySo f d → ⊥) → DefinesNothing f line
defines_nothing f line d read none e stand is =
    let same : d ≡ e = definition_same d e read.0 stand.written (sym read.1 ∙ is) in none (subst (MaySo f) (sym same) (stand.defines, stand.alone))

-- what holds where a call ends well
pub when_ok : {T E : Type 0} {P Q : Type 0} (r : Result T E) → (P → Q) → OnOk r P → OnOk r Q
when_ok (Ok x) f h = f h
when_ok (Err e) f h = h
