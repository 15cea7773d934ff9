-- The lines of a text, and the first that isn't right.
use Rattle.std.proofs.Common.{◌≡◌, ◌≢◌, ℕ, zero, suc, ◌+◌, ◌<◌, ◌≤◌, ◌==◌, true, false, List, [], ◌∷◌, ◌++◌, length, Option, None, Some, refl, sym, ◌∙◌, ap, subst, inl, inr, arith, append-nil, cond, codes, Bool}
use Rattle.std.specs.List.{All, onto_first, slice_get, slice_index_or, count_by}
use Rattle.std.specs.Option.{MatchOption}
use Rattle.std.proofs.lemmas.Bool.Decides.{eqb_tells}
use Rattle.std.proofs.lemmas.List.Elements.{All-head, All-tail, All-cons, All-nil, All-weaker}
use Rattle.std.proofs.lemmas.List.Sums.{sum_by-cons}
use Rattle.std.proofs.lemmas.List.Splits.{slice_split_none, slice_split_at, slice_split-cons_yes, slice_split-cons_no}
use Rattle.bt_text.specs.Blanks.{IsBlank}
use Rattle.bt_text.specs.Lines.{Lacks}
use Rattle.bt_text.specs.Pieces.{BeginsWith, CutsAt, LeadsTo}
use Rattle.bt_frac.specs.Ratio.{Ratio}
use Rattle.bt_net.specs.Network.{Network}
use Rattle.bt_flow.specs.Parts.{LeadsOn, StopsAt, StopsInTwo, HasByteAfter, StopsAtEnd, IsEnds, IsEdges}
use Rattle.bt_flow.specs.StateLines.{Form, just, Fills, numbers, marks, lines_of, IsRightAt, IsFirstWrong, IsFirstWrongLine, blanks}

-- the test for another byte
no_feed : (b : ℕ) → b ≢ 10 → (b == 10) ≡ false
no_feed b other = elim (eqb_tells b 10) [ inl same ↦ absurd (other same.1) | inr apart ↦ apart.0 ]

no_feeds : (line : List ℕ) → Lacks 10 line → All (λ b. (b == 10) ≡ false) line
no_feeds line lacks = All-weaker (λ b. b ≢ 10) (λ b. (b == 10) ≡ false) no_feed line lacks

-- the lines of what follows a line: none where nothing follows, else those after its line feed
unfoldable pub lines_after : List ℕ → List (List ℕ)
lines_after [] = []
lines_after (c ∷ rest) = lines_of rest

pub cut_lines : (text line rest : List ℕ) → CutsAt 10 text line rest → lines_of text ≡ line ∷ lines_after rest
unfolding lines_after
cut_lines text line rest cuts =
    elim cuts.begins [
      | inl none ↦
          ap lines_of (cuts.text_is ∙ ap (λ r. line ++ r) none ∙ append-nil line) ∙ slice_split_none (λ b. b == 10) line (no_feeds line cuts.lacks)
          ∙ ap (λ r. line ∷ lines_after r) (sym none)
      | inr more ↦
          ap lines_of (cuts.text_is ∙ ap (λ r. line ++ r) more.1) ∙ slice_split_at (λ b. b == 10) line 10 more.0 (no_feeds line cuts.lacks) refl
          ∙ ap (λ r. line ∷ lines_after r) (sym more.1)
    ]

next_lines : (text line rest : List ℕ) → LeadsTo 10 text line rest → lines_after text ≡ line ∷ lines_after rest
unfolding lines_after
next_lines text line rest leads =
    ap lines_after leads.text_is ∙ cut_lines (line ++ rest) line rest (record { lacks = leads.lacks; text_is = refl; begins = leads.begins })

-- a fact of the line with a number, where a first line is left out
inner : (form : Form) (wanted : List Form) (line : List ℕ) (lines : List (List ℕ)) (j : ℕ) → IsRightAt (form ∷ wanted) (line ∷ lines) (suc j) → IsRightAt wanted lines j
inner form wanted line lines j right = at (slice_get lines j) right
  where
    at : (r : Option (List ℕ)) → MatchOption r (suc (length wanted) ≤ suc j) (λ line. Fills (slice_index_or wanted j blanks) line)
        → MatchOption r (length wanted ≤ j) (λ line. Fills (slice_index_or wanted j blanks) line)
    at None h = omega arith
    at (Some line) h = h

outer : (form : Form) (wanted : List Form) (line : List ℕ) (lines : List (List ℕ)) (j : ℕ) → IsRightAt wanted lines j → IsRightAt (form ∷ wanted) (line ∷ lines) (suc j)
outer form wanted line lines j right = at (slice_get lines j) right
  where
    at : (r : Option (List ℕ)) → MatchOption r (length wanted ≤ j) (λ line. Fills (slice_index_or wanted j blanks) line)
        → MatchOption r (suc (length wanted) ≤ suc j) (λ line. Fills (slice_index_or wanted j blanks) line)
    at None h = omega arith
    at (Some line) h = h

-- the first line is right, and in the others the first wrong one is this
first_later : (form : Form) (wanted : List Form) (line : List ℕ) (lines : List (List ℕ)) (k : ℕ) → Fills form line → IsFirstWrong wanted lines k
    → IsFirstWrong (form ∷ wanted) (line ∷ lines) (suc k)
first_later form wanted line lines k fills h = record {
  wrong = λ right. h.wrong (inner form wanted line lines k right);
  earlier = earlier;
}
  where
    earlier : (j : ℕ) → j < suc k → IsRightAt (form ∷ wanted) (line ∷ lines) j
    earlier zero below = fills
    earlier (suc j) below = outer form wanted line lines j (h.earlier j (omega arith))

-- every line is right
pub record AreRight (wanted : List Form) (lines : List (List ℕ)) : Type 0 where
  pub at : (k : ℕ) → IsRightAt wanted lines k

-- where every line is right, a right line in front leaves it so
pub all_later : (form : Form) (wanted : List Form) (line : List ℕ) (lines : List (List ℕ)) → Fills form line → AreRight wanted lines
    → AreRight (form ∷ wanted) (line ∷ lines)
all_later form wanted line lines fills right = record { at = at }
  where
    at : (k : ℕ) → IsRightAt (form ∷ wanted) (line ∷ lines) k
    at zero = fills
    at (suc k) = outer form wanted line lines k (right.at k)

first_here : (wanted : List Form) (lines : List (List ℕ)) → (IsRightAt wanted lines 0 → ⊥) → IsFirstWrong wanted lines 0
first_here wanted lines wrong = record { wrong = wrong; earlier = λ j below. absurd (omega arith) }

-- the lines before this number are right, and this text follows them
pub record Reaches (whole : List Form) (bytes : List ℕ) (wanted : List Form) (done : ℕ) (text : List ℕ) : Type 0 where
  pub fails : (k : ℕ) → IsFirstWrong wanted (lines_after text) k → IsFirstWrong whole (lines_of bytes) (done + k)
  pub begins : BeginsWith 10 text

pub reach_first : (whole : List Form) (bytes : List ℕ) (form : Form) (wanted : List Form) (line rest : List ℕ)
    → whole ≡ form ∷ wanted → CutsAt 10 bytes line rest → Fills form line → Reaches whole bytes wanted 1 rest
reach_first whole bytes form wanted line rest are cuts fills = record {
  fails = λ k h.
      let later = first_later form wanted line (lines_after rest) k fills h in
      let at : IsFirstWrong whole (lines_of bytes) (suc k) =
      subst (λ fs. IsFirstWrong fs (lines_of bytes) (suc k)) (sym are)
      (subst (λ ls. IsFirstWrong (form ∷ wanted) ls (suc k)) (sym (cut_lines bytes line rest cuts)) later) in
      subst (λ m. IsFirstWrong whole (lines_of bytes) m) (omega arith) at;
  begins = cuts.begins;
}

reach_next : (whole : List Form) (bytes : List ℕ) (form : Form) (wanted : List Form) (done : ℕ) (text line rest : List ℕ)
    → Reaches whole bytes (form ∷ wanted) done text → LeadsTo 10 text line rest → Fills form line → Reaches whole bytes wanted (done + 1) rest
reach_next whole bytes form wanted done text line rest reach leads fills = record {
  fails = λ k h.
      let later = first_later form wanted line (lines_after rest) k fills h in
      let at = reach.fails (suc k) (subst (λ ls. IsFirstWrong (form ∷ wanted) ls (suc k)) (sym (next_lines text line rest leads)) later) in
      subst (λ m. IsFirstWrong whole (lines_of bytes) m) (omega arith) at;
  begins = leads.begins;
}

-- the line that comes next is right
pub reach_on : (whole : List Form) (bytes : List ℕ) (form : Form) (wanted : List Form) (done : ℕ) (text rest : List ℕ)
    → Reaches whole bytes (form ∷ wanted) done text → LeadsOn (Fills form) text rest → Reaches whole bytes wanted (done + 1) rest
reach_on whole bytes form wanted done text rest reach h = reach_next whole bytes form wanted done text h.line rest reach h.leads h.right

-- no line follows
stop_missing : (whole : List Form) (bytes : List ℕ) (form : Form) (wanted : List Form) (done : ℕ) (text : List ℕ)
    → Reaches whole bytes (form ∷ wanted) done text → ((rest : List ℕ) → text ≡ 10 ∷ rest → ⊥) → IsFirstWrongLine whole bytes (done + 1)
unfolding lines_after
stop_missing whole bytes form wanted done text reach none = (done, refl, at)
  where
    missing : IsFirstWrong (form ∷ wanted) (lines_after text) 0
    missing =
        elim reach.begins [
          | inl empty ↦ subst (λ t. IsFirstWrong (form ∷ wanted) (lines_after t) 0) (sym empty) (first_here (form ∷ wanted) [] (λ h. omega arith))
          | inr more ↦ absurd (none more.0 more.1)
        ]

    at : IsFirstWrong whole (lines_of bytes) done
    at = subst (λ m. IsFirstWrong whole (lines_of bytes) m) (omega arith) (reach.fails 0 missing)

-- the line that follows isn't right
stop_unfilled : (whole : List Form) (bytes : List ℕ) (form : Form) (wanted : List Form) (done : ℕ) (text line rest : List ℕ)
    → Reaches whole bytes (form ∷ wanted) done text → LeadsTo 10 text line rest → (Fills form line → ⊥) → IsFirstWrongLine whole bytes (done + 1)
stop_unfilled whole bytes form wanted done text line rest reach leads wrong = (done, refl, at)
  where
    unfilled : IsFirstWrong (form ∷ wanted) (lines_after text) 0
    unfilled =
        subst (λ ls. IsFirstWrong (form ∷ wanted) ls 0) (sym (next_lines text line rest leads))
        (first_here (form ∷ wanted) (line ∷ lines_after rest) wrong)

    at : IsFirstWrong whole (lines_of bytes) done
    at = subst (λ m. IsFirstWrong whole (lines_of bytes) m) (omega arith) (reach.fails 0 unfilled)

-- no right line comes next
stop_at : (whole : List Form) (bytes : List ℕ) (form : Form) (wanted : List Form) (done : ℕ) (text : List ℕ)
    → Reaches whole bytes (form ∷ wanted) done text → StopsAt (Fills form) text → IsFirstWrongLine whole bytes (done + 1)
stop_at whole bytes form wanted done text reach (inl none) = stop_missing whole bytes form wanted done text reach none
stop_at whole bytes form wanted done text reach (inr (rest, other)) = stop_unfilled whole bytes form wanted done text other.line rest reach other.leads other.right

-- of two lines that are to come next one isn't right
pub stop_in_two : (whole : List Form) (bytes : List ℕ) (first second : Form) (wanted : List Form) (done : ℕ) (text : List ℕ) (line : ℕ)
    → Reaches whole bytes (first ∷ second ∷ wanted) done text → StopsInTwo (done + 1) (Fills first) (Fills second) text line → IsFirstWrongLine whole bytes line
stop_in_two whole bytes first second wanted done text line reach (inl (is, stops)) =
    subst (λ k. IsFirstWrongLine whole bytes k) (sym is) (stop_at whole bytes first (second ∷ wanted) done text reach stops)
stop_in_two whole bytes first second wanted done text line reach (inr (is, more)) =
    subst (λ k. IsFirstWrongLine whole bytes k) (sym is)
    (stop_at whole bytes second wanted (done + 1) more.0 (reach_on whole bytes first (second ∷ wanted) done text more.0 reach more.1) more.2)

-- the first line isn't right
pub stop_first : (whole : List Form) (bytes : List ℕ) (form : Form) (wanted : List Form) (line rest : List ℕ)
    → whole ≡ form ∷ wanted → CutsAt 10 bytes line rest → (Fills form line → ⊥) → IsFirstWrongLine whole bytes 1
stop_first whole bytes form wanted line rest are cuts wrong = (
  0,
  refl,
  subst (λ fs. IsFirstWrong fs (lines_of bytes) 0) (sym are)
      (subst (λ ls. IsFirstWrong (form ∷ wanted) ls 0) (sym (cut_lines bytes line rest cuts))
      (first_here (form ∷ wanted) (line ∷ lines_after rest) wrong)),
)

-- the line with this number among blank ones
blank_inner : (line : List ℕ) (lines : List (List ℕ)) (j : ℕ) → IsRightAt [] (line ∷ lines) (suc j) → IsRightAt [] lines j
blank_inner line lines j right = at (slice_get lines j) right
  where
    at : (r : Option (List ℕ)) → MatchOption r (0 ≤ suc j) (λ line. All IsBlank line) → MatchOption r (0 ≤ j) (λ line. All IsBlank line)
    at None h = omega arith
    at (Some line) h = h

blank_outer : (line : List ℕ) (lines : List (List ℕ)) (j : ℕ) → IsRightAt [] lines j → IsRightAt [] (line ∷ lines) (suc j)
blank_outer line lines j right = at (slice_get lines j) right
  where
    at : (r : Option (List ℕ)) → MatchOption r (0 ≤ j) (λ line. All IsBlank line) → MatchOption r (0 ≤ suc j) (λ line. All IsBlank line)
    at None h = omega arith
    at (Some line) h = h

-- a blank line in front
blank_later : (line : List ℕ) (lines : List (List ℕ)) (k : ℕ) → All IsBlank line → IsFirstWrong [] lines k → IsFirstWrong [] (line ∷ lines) (suc k)
blank_later line lines k blank h = record { wrong = λ right. h.wrong (blank_inner line lines k right); earlier = earlier }
  where
    earlier : (j : ℕ) → j < suc k → IsRightAt [] (line ∷ lines) j
    earlier zero below = blank
    earlier (suc j) below = blank_outer line lines j (h.earlier j (omega arith))

-- a blank byte at the front of the first line
blank_onto : (byte : ℕ) (lines : List (List ℕ)) (k : ℕ) → IsBlank byte → IsFirstWrong [] lines k → IsFirstWrong [] (onto_first byte lines) k
blank_onto byte [] k blank h = absurd (h.wrong (omega arith))
blank_onto byte (part ∷ parts) zero blank h = record {
  wrong = λ right. h.wrong (All-tail IsBlank byte part right);
  earlier = λ j below. absurd (omega arith);
}
blank_onto byte (part ∷ parts) (suc k) blank h = record { wrong = λ right. h.wrong right; earlier = earlier }
  where
    earlier : (j : ℕ) → j < suc k → IsRightAt [] ((byte ∷ part) ∷ parts) j
    earlier zero below = All-cons IsBlank byte part blank (h.earlier 0 (omega arith))
    earlier (suc j) below = h.earlier (suc j) below

-- a first byte that isn't blank
byte_onto : (byte : ℕ) (lines : List (List ℕ)) → (IsBlank byte → ⊥) → IsFirstWrong [] (onto_first byte lines) 0
byte_onto byte [] other = first_here [] ((byte ∷ []) ∷ []) (λ right. other (All-head IsBlank byte [] right))
byte_onto byte (part ∷ parts) other = first_here [] ((byte ∷ part) ∷ parts) (λ right. other (All-head IsBlank byte part right))

-- the line feeds of one more byte
feeds_yes : (b : ℕ) (front : List ℕ) → (b == 10) ≡ true → count_by (λ b. b == 10) (b ∷ front) ≡ suc (count_by (λ b. b == 10) front)
feeds_yes b front e = sum_by-cons (λ x. cond (x == 10) 1 0) b front ∙ ap (λ t. cond t 1 0 + count_by (λ b. b == 10) front) e ∙ one_more (count_by (λ b. b == 10) front)
  where
    one_more : (n : ℕ) → 1 + n ≡ suc n
    one_more n = omega arith

feeds_no : (b : ℕ) (front : List ℕ) → (b == 10) ≡ false → count_by (λ b. b == 10) (b ∷ front) ≡ count_by (λ b. b == 10) front
feeds_no b front e = sum_by-cons (λ x. cond (x == 10) 1 0) b front ∙ ap (λ t. cond t 1 0 + count_by (λ b. b == 10) front) e ∙ same (count_by (λ b. b == 10) front)
  where
    same : (n : ℕ) → 0 + n ≡ n
    same n = omega arith

-- blank lines, and then one that isn't
blank_wrong : (front : List ℕ) (byte : ℕ) (rest : List ℕ) → All IsBlank front → (IsBlank byte → ⊥)
    → IsFirstWrong [] (lines_of (front ++ byte ∷ rest)) (count_by (λ b. b == 10) front)
blank_wrong [] byte rest blank other =
    subst (λ ls. IsFirstWrong [] ls 0) (sym (slice_split-cons_no (λ b. b == 10) byte rest (no_feed byte (λ same. other (inr (inr (inl same)))))))
    (byte_onto byte (lines_of rest) other)
blank_wrong (b ∷ front) byte rest blank other =
    let more = blank_wrong front byte rest (All-tail IsBlank b front blank) other in
    let lines = lines_of (front ++ byte ∷ rest) in
    let count = count_by (λ b. b == 10) front in
    elim (eqb_tells b 10) [
      | inl feed ↦
          subst (λ k. IsFirstWrong [] (lines_of ((b ∷ front) ++ byte ∷ rest)) k) (sym (feeds_yes b front feed.0))
          (subst (λ ls. IsFirstWrong [] ls (suc count)) (sym (slice_split-cons_yes (λ b. b == 10) b (front ++ byte ∷ rest) feed.0))
          (blank_later [] lines count (All-nil IsBlank) more))
      | inr apart ↦
          subst (λ k. IsFirstWrong [] (lines_of ((b ∷ front) ++ byte ∷ rest)) k) (sym (feeds_no b front apart.0))
          (subst (λ ls. IsFirstWrong [] ls count) (sym (slice_split-cons_no (λ b. b == 10) b (front ++ byte ∷ rest) apart.0))
          (blank_onto b lines count (All-head IsBlank b front blank) more))
    ]

-- after a blank line the numbers are one less
blank_earlier : (lines : List (List ℕ)) (feeds : ℕ) → IsFirstWrong [] ([] ∷ lines) feeds → (k : ℕ) × (feeds ≡ suc k) × IsFirstWrong [] lines k
blank_earlier lines zero h = absurd (h.wrong (All-nil IsBlank))
blank_earlier lines (suc k) h = (
  k,
  refl,
  record {
    wrong = λ right. h.wrong (blank_outer [] lines k right);
    earlier = λ j below. blank_inner [] lines j (h.earlier (suc j) (omega arith));
  },
)

-- blank lines follow, and then one that isn't
stop_blank : (whole : List Form) (bytes : List ℕ) (done : ℕ) (text : List ℕ) (feeds : ℕ)
    → Reaches whole bytes [] done text → HasByteAfter text feeds → IsFirstWrongLine whole bytes (done + feeds)
unfolding lines_after
stop_blank whole bytes done text feeds reach h = at (blank_earlier (lines_after text) feeds after)
  where
    some_byte : (front : List ℕ) (byte : ℕ) (rest : List ℕ) → [] ≡ front ++ byte ∷ rest → ⊥
    some_byte [] byte rest e = cc
    some_byte (c ∷ front) byte rest e = cc

    wrong : IsFirstWrong [] (lines_of text) feeds
    wrong =
        subst (λ t. IsFirstWrong [] (lines_of t) feeds) (sym h.text_is)
        (subst (λ k. IsFirstWrong [] (lines_of (h.blanks ++ h.byte ∷ h.rest)) k) (sym h.feeds_are) (blank_wrong h.blanks h.byte h.rest h.are_blanks h.other))

    after : IsFirstWrong [] ([] ∷ lines_after text) feeds
    after =
        elim reach.begins [
          | inl none ↦ absurd (some_byte h.blanks h.byte h.rest (sym none ∙ h.text_is))
          | inr more ↦
              subst (λ t. IsFirstWrong [] ([] ∷ lines_after t) feeds) (sym more.1) (subst (λ t. IsFirstWrong [] (lines_of t) feeds) more.1 wrong)
        ]

    at : (k : ℕ) × (feeds ≡ suc k) × IsFirstWrong [] (lines_after text) k → IsFirstWrongLine whole bytes (done + feeds)
    at (k, is, first) = (done + k, omega arith, reach.fails k first)

blank_onto_right : (byte : ℕ) (lines : List (List ℕ)) → IsBlank byte → ((k : ℕ) → IsRightAt [] lines k) → (k : ℕ) → IsRightAt [] (onto_first byte lines) k
blank_onto_right byte [] blank right zero = All-cons IsBlank byte [] blank (All-nil IsBlank)
blank_onto_right byte [] blank right (suc k) = omega arith
blank_onto_right byte (part ∷ parts) blank right zero = All-cons IsBlank byte part blank (right 0)
blank_onto_right byte (part ∷ parts) blank right (suc k) = right (suc k)

-- the lines of blanks
pub blank_right : (text : List ℕ) → All IsBlank text → (k : ℕ) → IsRightAt [] (lines_of text) k
blank_right [] blank zero = All-nil IsBlank
blank_right [] blank (suc k) = omega arith
blank_right (b ∷ text) blank k =
    let more = blank_right text (All-tail IsBlank b text blank) in
    elim (eqb_tells b 10) [
      | inl feed ↦ subst (λ ls. IsRightAt [] ls k) (sym (slice_split-cons_yes (λ b. b == 10) b text feed.0)) (onto k more)
      | inr apart ↦
          subst (λ ls. IsRightAt [] ls k) (sym (slice_split-cons_no (λ b. b == 10) b text apart.0))
          (blank_onto_right b (lines_of text) (All-head IsBlank b text blank) more k)
    ]
  where
    onto : (k : ℕ) → ((k : ℕ) → IsRightAt [] (lines_of text) k) → IsRightAt [] ([] ∷ lines_of text) k
    onto zero right = All-nil IsBlank
    onto (suc k) right = blank_outer [] (lines_of text) k (right k)

-- the lines of loads and rooms come next
pub reach_ends : (whole : List Form) (bytes : List ℕ) (n : Network) (wanted : List Form) (done : ℕ) (text rest : List ℕ) (loads rooms : List Ratio)
    → Reaches whole bytes (numbers (codes "load") n.inputs ∷ numbers (codes "room") n.outputs ∷ wanted) done text → IsEnds n text loads rooms rest
    → Reaches whole bytes wanted (done + 1 + 1) rest
reach_ends whole bytes n wanted done text rest loads rooms reach h =
    reach_on whole bytes (numbers (codes "room") n.outputs) wanted (done + 1) h.middle rest
    (reach_on whole bytes (numbers (codes "load") n.inputs) (numbers (codes "room") n.outputs ∷ wanted) done text h.middle reach
    (record { line = h.load_line.line; leads = h.load_line.leads; right = (loads, h.load_line.right) }))
    (record { line = h.room_line.line; leads = h.room_line.leads; right = (rooms, h.room_line.right) })

-- the lines of flows and marks come next
pub reach_edges : (whole : List Form) (bytes : List ℕ) (n : Network) (wanted : List Form) (done : ℕ) (text rest : List ℕ) (flows : List Ratio) (backed : List Bool)
    → Reaches whole bytes (numbers (codes "flow") (length n.edges) ∷ marks (length n.edges) ∷ wanted) done text → IsEdges n text flows backed rest
    → Reaches whole bytes wanted (done + 1 + 1) rest
reach_edges whole bytes n wanted done text rest flows backed reach h =
    reach_on whole bytes (marks (length n.edges)) wanted (done + 1) h.middle rest
    (reach_on whole bytes (numbers (codes "flow") (length n.edges)) (marks (length n.edges) ∷ wanted) done text h.middle reach
    (record { line = h.flow_line.line; leads = h.flow_line.leads; right = (flows, h.flow_line.right) }))
    (record { line = h.mark_line.line; leads = h.mark_line.leads; right = (backed, h.mark_line.right) })

-- the last line doesn't come next, or a byte follows it that isn't blank
pub stop_end : (whole : List Form) (bytes : List ℕ) (done : ℕ) (text : List ℕ) (line : ℕ)
    → Reaches whole bytes (just (codes "end") ∷ []) done text → StopsAtEnd (done + 1) text line → IsFirstWrongLine whole bytes line
stop_end whole bytes done text line reach (inl (is, stops)) =
    subst (λ k. IsFirstWrongLine whole bytes k) (sym is) (stop_at whole bytes (just (codes "end")) [] done text reach stops)
stop_end whole bytes done text line reach (inr (feeds, is, more)) =
    subst (λ k. IsFirstWrongLine whole bytes k) (sym is)
    (stop_blank whole bytes (done + 1) more.rest feeds (reach_on whole bytes (just (codes "end")) [] done text more.rest reach more.ends) more.more)

-- of a text one line is the first that isn't right
pub one_wrong : (whole : List Form) (bytes : List ℕ) (one other : ℕ) → IsFirstWrongLine whole bytes one → IsFirstWrongLine whole bytes other → one ≡ other
one_wrong whole bytes one other (k, is, first) (j, is', first') =
    let not_below : k < j → ⊥ = λ below. first.wrong (first'.earlier k below) in
    let not_above : j < k → ⊥ = λ below. first'.wrong (first.earlier j below) in
    omega arith

-- where every line is right, none is wrong
pub right_none_wrong : (whole : List Form) (bytes : List ℕ) (wrong : ℕ) → AreRight whole (lines_of bytes) → IsFirstWrongLine whole bytes wrong → ⊥
right_none_wrong whole bytes wrong right (k, is, first) = first.wrong (right.at k)
