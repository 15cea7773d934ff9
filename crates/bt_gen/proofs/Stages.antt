-- The edges of a butterfly, by the lines that they carry into a stage.
use Rattle.std.proofs.Common.{◌≡◌, ℕ, zero, suc, ◌+◌, ◌*◌, ◌/◌, ◌%◌, ◌^◌, ◌<◌, ◌≤◌, ◌⊎◌, inl, inr, ⊎_elim, IsTrue, length, slice_get, Some, if◌then◌else◌, ap, sym, ◌∙◌, refl, subst, arith, mul-le-mul_right, div-mul-le_self, div-add-mod'}
use Rattle.std.specs.Prelude.{◌-◌}
use Rattle.std.specs.List.{flat_map, range_with_len}
use Rattle.std.proofs.lemmas.Bool.{cases_lt, lt-ltb, le-ltb, eq-eqb}
use Rattle.std.proofs.lemmas.Nat.{mod_below, pow_pos, pow-add}
use Rattle.std.proofs.lemmas.List.{length-append, length-map}
use Rattle.std.proofs.lemmas.Option.{slice_get_within}
use Rattle.std.proofs.lemmas.List.FromFn.{length-range_with_len}
use Rattle.bt_net.specs.declared.network.Edge.{Edge}
use Rattle.bt_net.specs.declared.network.Target.TheVariants as to
use Rattle.bt_net.specs.Network.{enters, is_output}
use Rattle.bt_gen.specs.Edges.{from_splitter}
use Rattle.bt_gen.specs.Butterfly.{number, lesser_line, greater_line, place_with_line, leads_to, input_edge, input_edges, out_edges, stage_edges, butterfly_edges}
use Rattle.bt_gen.proofs.Lines.{double, one_place}
use Rattle.bt_gen.proofs.Placed.{at_front, behind_front, at_mapped, rows_long, at_row}

-- sizes as multiples of a stage's distance
pub sizes : (t n order : ℕ) → order ≡ n + (t + 1) → (2 ^ order ≡ 2 ^ n * (2 ^ t + 2 ^ t)) × (2 ^ (order - 1) ≡ 2 ^ n * 2 ^ t)
sizes t n order e =
    let less : order - 1 ≡ n + t = omega (arith, e) in (
      ap (λ k. 2 ^ k) e ∙ pow-add 2 n (t + 1) ∙ ap (λ x. 2 ^ n * x) (double t),
      ap (λ k. 2 ^ k) less ∙ pow-add 2 n t,
    )

pub below_quotient : (v r l : ℕ) → l < r * v → l / v < r
below_quotient v r l small = ⊎_elim (λ h. h) (λ h. absurd (omega (arith, small, mul-le-mul_right v h, div-mul-le_self l v))) (cases_lt (l / v) r)

place_small : (w r l : ℕ) → 0 < w → l < r * (w + w) → l / (w + w) * w + l % w < r * w
place_small w r l positive small =
    let q : l / (w + w) + 1 ≤ r = omega (arith, below_quotient (w + w) r l small) in omega (arith, mul-le-mul_right w q, mod_below l w positive)

line_small : (w r p : ℕ) → 0 < w → p < r * w → p / w * (w + w) + p % w + w < r * (w + w)
line_small w r p positive small =
    let q : p / w + 1 ≤ r = omega (arith, below_quotient w r p small) in omega (arith, mul-le-mul_right (w + w) q, mod_below p w positive)

-- the place of a line is one of the stage
place_within : (t n order line : ℕ) → order ≡ n + (t + 1) → line < 2 ^ order → place_with_line t line < 2 ^ (order - 1)
place_within t n order line e small =
    let z = sizes t n order e in
    rw (double t, z.1) (place_small (2 ^ t) (2 ^ n) line (pow_pos t) (subst (λ x. line < x) z.0 small))

-- the lines of a splitter are lines of the butterfly
pub lines_within : (t n order p : ℕ) → order ≡ n + (t + 1) → p < 2 ^ (order - 1) → greater_line t p < 2 ^ order
lines_within t n order p e small =
    let z = sizes t n order e in
    rw (double t, z.0) (line_small (2 ^ t) (2 ^ n) p (pow_pos t) (subst (λ x. p < x) z.1 small))

-- the number of the out edge of this side of a splitter
abbrev pub out_number : ℕ → ℕ → ℕ → ℕ → ℕ
out_number order t p b = 2 ^ order + (t * (2 ^ (order - 1) * 2) + (p * 2 + b))

-- the edge is that by which a line leaves a stage
pub record IsOut (order t line a : ℕ) : Type 0 where
  pub place : ℕ
  pub within : place < 2 ^ (order - 1)
  pub is : ((line ≡ lesser_line t place) × (a ≡ out_number order t place 0)) ⊎ ((line ≡ greater_line t place) × (a ≡ out_number order t place 1))

-- the edge carries a line into a stage, or behind the last one to an output
abbrev pub Carries : ℕ → ℕ → ℕ → ℕ → Type 0
Carries order zero line a = (a ≡ line) × (line < 2 ^ order)
Carries order (suc t) line a = IsOut order t line a

zero_more : (n : ℕ) → 0 + n ≡ n
zero_more n = omega arith

module _ (order : ℕ) where
  pub inputs_long : length (input_edges order) ≡ 2 ^ order
  inputs_long = length-map (range_with_len 0 (2 ^ order)) input_edge ∙ length-range_with_len 0 (2 ^ order)

  input_at : (line : ℕ) → line < 2 ^ order → slice_get (butterfly_edges order) line ≡ Some (input_edge line)
  input_at line l =
      at_front (input_edges order) (flat_map (stage_edges order) (range_with_len 0 order)) line (omega (arith, l, inputs_long))
      ∙ at_mapped input_edge 0 (2 ^ order) line l ∙ ap (λ k. Some (input_edge k)) (zero_more line)

  out_at : (t p b : ℕ) → t < order → p < 2 ^ (order - 1) → b < 2 → slice_get (butterfly_edges order) (out_number order t p b) ≡ slice_get (out_edges order t p) b
  out_at t p b l m s =
      behind_front (input_edges order) (flat_map (stage_edges order) (range_with_len 0 order)) (out_number order t p b) (t * (2 ^ (order - 1) * 2) + (p * 2 + b)) (omega (arith, inputs_long))
      ∙ at_row (stage_edges order) (2 ^ (order - 1) * 2) (λ i. rows_long (out_edges order i) 2 (λ j. refl) 0 (2 ^ (order - 1))) 0 order t (p * 2 + b) (t * (2 ^ (order - 1) * 2) + (p * 2 + b)) l (omega (arith, m, s)) refl
      ∙ ap (λ i. slice_get (stage_edges order i) (p * 2 + b)) (zero_more t)
      ∙ at_row (out_edges order t) 2 (λ j. refl) 0 (2 ^ (order - 1)) p b (p * 2 + b) m s refl
      ∙ ap (λ j. slice_get (out_edges order t j) b) (zero_more p)

  -- the two out edges of a splitter
  abbrev pub lesser_edge : ℕ → ℕ → Edge
  lesser_edge t p = from_splitter (number order t p) (leads_to order t (lesser_line t p) (2 * p))

  abbrev pub greater_edge : ℕ → ℕ → Edge
  greater_edge t p = from_splitter (number order t p) (leads_to order t (greater_line t p) (2 * p + 1))

  pub lesser_at : (t p : ℕ) → t < order → p < 2 ^ (order - 1) → slice_get (butterfly_edges order) (out_number order t p 0) ≡ Some (lesser_edge t p)
  lesser_at t p l m = out_at t p 0 l m (omega arith)

  pub greater_at : (t p : ℕ) → t < order → p < 2 ^ (order - 1) → slice_get (butterfly_edges order) (out_number order t p 1) ≡ Some (greater_edge t p)
  greater_at t p l m = out_at t p 1 l m (omega arith)

  -- an edge enters the splitter of the stage that has its line
  pub record Entering (t line a : ℕ) : Type 0 where
    pub edge : Edge
    pub has : slice_get (butterfly_edges order) a ≡ Some edge
    pub in_to : IsTrue (enters (number order t (place_with_line t line)) edge)
    pub cap : edge.cap ≡ 1

  goes_on : (t line output : ℕ) → t + 1 < order → leads_to order t line output ≡ to.Split (number order (t + 1) (place_with_line (t + 1) line))
  goes_on t line output l = ap (λ b. if b then to.Split (number order (t + 1) (place_with_line (t + 1) line)) else to.Output output) (lt-ltb (t + 1) order l)

  enters_next : (t m line line' output : ℕ) → t + 1 < order → line ≡ line' → IsTrue (enters (number order (suc t) (place_with_line (suc t) line)) (from_splitter m (leads_to order t line' output)))
  enters_next t m line line' output l same =
      let next : t + 1 ≡ suc t = omega arith in
      let k : number order (t + 1) (place_with_line (t + 1) line') ≡ number order (suc t) (place_with_line (suc t) line) =
      ap (λ i. number order i (place_with_line i line')) next ∙ ap (λ i. number order (suc t) (place_with_line (suc t) i)) (sym same) in
      subst (λ g. IsTrue (enters (number order (suc t) (place_with_line (suc t) line)) (from_splitter m g))) (sym (goes_on t line' output l)) (eq-eqb _ _ k)

  out_entering : (t line a : ℕ) → t + 1 < order → (c : IsOut order t line a) → Entering (suc t) line a
  out_entering t line a l c =
      elim c.is [
        | inl at ↦ record {
          edge = lesser_edge t c.place;
          has = ap (slice_get (butterfly_edges order)) at.1 ∙ lesser_at t c.place (omega (arith, l)) c.within;
          in_to = enters_next t (number order t c.place) line (lesser_line t c.place) (2 * c.place) l at.0;
          cap = refl;
        }
        | inr at ↦ record {
          edge = greater_edge t c.place;
          has = ap (slice_get (butterfly_edges order)) at.1 ∙ greater_at t c.place (omega (arith, l)) c.within;
          in_to = enters_next t (number order t c.place) line (greater_line t c.place) (2 * c.place + 1) l at.0;
          cap = refl;
        }
      ]

  pub entering : (t line a : ℕ) → t < order → Carries order t line a → Entering t line a
  entering zero line a l c = record {
    edge = input_edge line;
    has = ap (slice_get (butterfly_edges order)) c.0 ∙ input_at line c.1;
    in_to = eq-eqb (place_with_line 0 line) (number order 0 (place_with_line 0 line)) (omega arith);
    cap = refl;
  }
  entering (suc t) line a l c = out_entering t line a (omega (arith, l)) c

  -- behind the last stage an edge leads to an output
  pub record Leaving (a : ℕ) : Type 0 where
    pub edge : Edge
    pub has : slice_get (butterfly_edges order) a ≡ Some edge
    pub output : ℕ
    pub small : output < 2 ^ order
    pub out_of : IsTrue (is_output output edge)
    pub cap : edge.cap ≡ 1

  ends_at : (t line output : ℕ) → order ≤ t + 1 → leads_to order t line output ≡ to.Output output
  ends_at t line output l = ap (λ b. if b then to.Split (number order (t + 1) (place_with_line (t + 1) line)) else to.Output output) (le-ltb (t + 1) order l)

  is_out : (t m line output : ℕ) → order ≤ t + 1 → IsTrue (is_output output (from_splitter m (leads_to order t line output)))
  is_out t m line output l = subst (λ g. IsTrue (is_output output (from_splitter m g))) (sym (ends_at t line output l)) (eq-eqb output output refl)

  pub leaving : (t line a : ℕ) → order ≡ t + 1 → IsOut order t line a → Leaving a
  leaving t line a e c =
      let whole : 2 ^ order ≡ 2 ^ (order - 1) + 2 ^ (order - 1) =
      let same : order ≡ (order - 1) + 1 = omega (arith, e) in ap (λ k. 2 ^ k) same ∙ double (order - 1) in
      elim c.is [
        | inl at ↦ record {
          edge = lesser_edge t c.place;
          has = ap (slice_get (butterfly_edges order)) at.1 ∙ lesser_at t c.place (omega (arith, e)) c.within;
          output = 2 * c.place;
          small = omega (arith, whole, c.within);
          out_of = is_out t (number order t c.place) (lesser_line t c.place) (2 * c.place) (omega (arith, e));
          cap = refl;
        }
        | inr at ↦ record {
          edge = greater_edge t c.place;
          has = ap (slice_get (butterfly_edges order)) at.1 ∙ greater_at t c.place (omega (arith, e)) c.within;
          output = 2 * c.place + 1;
          small = omega (arith, whole, c.within);
          out_of = is_out t (number order t c.place) (greater_line t c.place) (2 * c.place + 1) (omega (arith, e));
          cap = refl;
        }
      ]

  -- an edge carries one line
  pub one_line : (t line line' a : ℕ) → Carries order t line a → Carries order t line' a → line ≡ line'
  one_line zero line line' a c d = sym c.0 ∙ d.0
  one_line (suc t) line line' a c d =
      elim c.is [
        | inl at ↦ elim d.is [
          | inl at' ↦ let same : c.place ≡ d.place = omega (arith, at.1, at'.1) in at.0 ∙ ap (lesser_line t) same ∙ sym at'.0
          | inr at' ↦ absurd (omega (arith, at.1, at'.1))
        ]
        | inr at ↦ elim d.is [
          | inl at' ↦ absurd (omega (arith, at.1, at'.1))
          | inr at' ↦ let same : c.place ≡ d.place = omega (arith, at.1, at'.1) in at.0 ∙ ap (greater_line t) same ∙ sym at'.0
        ]
      ]

  -- each line is carried by an edge
  pub carried : (t line : ℕ) → t ≤ order → line < 2 ^ order → (a : ℕ) × Carries order t line a
  carried zero line l small = (line, (refl, small))
  carried (suc t) line l small =
      let within = place_within t (order - (t + 1)) order line (omega (arith, l)) small in
      elim ((one_place t (place_with_line t line) line).1 refl) [
        | inl e ↦ (out_number order t (place_with_line t line) 0, record { place = place_with_line t line; within = within; is = inl (e, refl) })
        | inr e ↦ (out_number order t (place_with_line t line) 1, record { place = place_with_line t line; within = within; is = inr (e, refl) })
      ]

  -- and is one of the butterfly's
  pub line_below : (t line a : ℕ) → t ≤ order → Carries order t line a → line < 2 ^ order
  line_below zero line a l c = c.1
  line_below (suc t) line a l c =
      let most = lines_within t (order - (t + 1)) order c.place (omega (arith, l)) c.within in
      elim c.is [
        | inl at ↦ omega (arith, at.0, most)
        | inr at ↦ omega (arith, at.0, most)
      ]

  pub place_below : (t line a : ℕ) → t < order → Carries order t line a → place_with_line t line < 2 ^ (order - 1)
  place_below t line a l c = place_within t (order - (t + 1)) order line (omega (arith, l)) (line_below t line a (omega (arith, l)) c)

  -- an edge behind the last stage
  pub record EndsOut (a : ℕ) : Type 0 where
    pub stage : ℕ
    pub last : order ≡ stage + 1
    pub line : ℕ
    pub is : IsOut order stage line a

  no_output : (t m line output o : ℕ) → t + 1 < order → IsTrue (is_output o (from_splitter m (leads_to order t line output))) → ⊥
  no_output t m line output o l is =
      let split = subst (λ g. IsTrue (is_output o (from_splitter m g))) (goes_on t line output l) is in absurd cc

  some_is : (x e : Edge) → Some x ≡ Some e → e ≡ x
  some_is x e s = cc

  input_no_output : (line o : ℕ) → IsTrue (is_output o (input_edge line)) → ⊥
  input_no_output line o is = absurd cc

  -- an out edge that ends at an output is behind the last stage
  out_ends : (t p b a o : ℕ) (e : Edge) → t < order → p < 2 ^ (order - 1) → b < 2 → a ≡ out_number order t p b → slice_get (butterfly_edges order) a ≡ Some e → IsTrue (is_output o e) → EndsOut a
  out_ends t p zero a o e l m s at has out =
      let same = some_is (lesser_edge t p) e (sym (lesser_at t p l m) ∙ ap (slice_get (butterfly_edges order)) (sym at) ∙ has) in
      let out' = subst (λ x. IsTrue (is_output o x)) same out in
      elim (cases_lt (t + 1) order) [
        | inl more ↦ absurd (no_output t (number order t p) (lesser_line t p) (2 * p) o more out')
        | inr most ↦ record { stage = t; last = omega (arith, l, most); line = lesser_line t p; is = record { place = p; within = m; is = inl (refl, at) } }
      ]
  out_ends t p (suc b) a o e l m s at has out =
      let one : suc b ≡ 1 = omega (arith, s) in
      let at' : a ≡ out_number order t p 1 = at ∙ ap (out_number order t p) one in
      let same = some_is (greater_edge t p) e (sym (greater_at t p l m) ∙ ap (slice_get (butterfly_edges order)) (sym at') ∙ has) in
      let out' = subst (λ x. IsTrue (is_output o x)) same out in
      elim (cases_lt (t + 1) order) [
        | inl more ↦ absurd (no_output t (number order t p) (greater_line t p) (2 * p + 1) o more out')
        | inr most ↦ record { stage = t; last = omega (arith, l, most); line = greater_line t p; is = record { place = p; within = m; is = inr (refl, at') } }
      ]

  edges_long : length (butterfly_edges order) ≡ 2 ^ order + order * (2 ^ (order - 1) * 2)
  edges_long =
      length-append (input_edges order) (flat_map (stage_edges order) (range_with_len 0 order))
      ∙ omega (arith, inputs_long, rows_long (stage_edges order) (2 ^ (order - 1) * 2) (λ i. rows_long (out_edges order i) 2 (λ j. refl) 0 (2 ^ (order - 1))) 0 order)

  split_place : (w n : ℕ) → n ≡ n / w * w + (n % w / 2 * 2 + n % w % 2)
  split_place w n = omega (arith, div-add-mod' n w, div-add-mod' (n % w) 2)

  behind_ends : (n a o : ℕ) (e : Edge) → a ≡ 2 ^ order + n → n < order * (2 ^ (order - 1) * 2) → slice_get (butterfly_edges order) a ≡ Some e → IsTrue (is_output o e) → EndsOut a
  behind_ends n a o e at small has out =
      let w = 2 ^ (order - 1) * 2 in
      let some : 0 < w = omega (arith, pow_pos (order - 1)) in
      let rest : n % w < w = mod_below n w some in
      out_ends (n / w) (n % w / 2) (n % w % 2) a o e (below_quotient w order n small) (below_quotient 2 (2 ^ (order - 1)) (n % w) rest) (mod_below (n % w) 2 (omega arith))
      (at ∙ ap (λ k. 2 ^ order + k) (split_place w n)) has out

  pub ends_out : (a o : ℕ) (e : Edge) → slice_get (butterfly_edges order) a ≡ Some e → IsTrue (is_output o e) → EndsOut a
  ends_out a o e has out =
      elim (cases_lt a (2 ^ order)) [
        | inl small ↦ absurd (input_no_output a o (subst (λ x. IsTrue (is_output o x)) (some_is (input_edge a) e (sym (input_at a small) ∙ has)) out))
        | inr most ↦
            let within = slice_get_within (butterfly_edges order) a e has in
            behind_ends (a - 2 ^ order) a o e (omega (arith, most)) (omega (arith, within, most, edges_long)) has out
      ]
