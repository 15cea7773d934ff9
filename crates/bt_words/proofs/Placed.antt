-- Properties and numbers behind what is given.
use Rattle.std.proofs.Common.{◌≡◌, ◌≤◌, ℕ, arith, List, [], ◌∷◌, Some, None, sym, subst, ◌∙◌, ap}
use Rattle.std.specs.Prelude.{MatchOption, decimal}
use Rattle.std.specs.declared.option.Option.{Option}
use Rattle.std.specs.Option.{option_to_list}
use Rattle.std.specs.List.{filter_map}
use Rattle.std.proofs.lemmas.List.{append-nil}
use Rattle.bt_flow.specs.declared.property.Property.{Property}
use Rattle.bt_gen.specs.declared.wish.Wish.{Wish}
use Rattle.bt_gen.specs.Wishes.{only, IsWishWord}
use Rattle.bt_words.specs.declared.argument.TheConstants.{MOST_ORDER}
use Rattle.bt_words.specs.declared.argument.Argument.{Argument}
use Rattle.bt_words.specs.declared.argument.Argument.TheVariants.{Wished, Number, Chain, Learnt, Pivots, Grid, OfTier, Most, From, Found, Sides, Request}
use Rattle.bt_words.specs.declared.given.Given.{Given}
use Rattle.bt_words.specs.declared.given.Places.{Places}
use Rattle.bt_words.specs.declared.given.Places.TheVariants as places
use Rattle.bt_words.specs.Arguments.{IsPlain}
use Rattle.bt_words.specs.Commands.{mark, nothing, one_property, place_in}
use Rattle.bt_words.specs.inner.Reading.{Adds, IsFollowed, IsMark, IsPlaced}

-- a word that is an option without a value, or properties, or a number, is an argument for itself
pub mark_is_plain : (a : Argument) (word : List ℕ) → IsMark a word → IsPlain a word
mark_is_plain Chain word h = h
mark_is_plain Found word h = h
mark_is_plain Sides word h = h
mark_is_plain Request word h = h
mark_is_plain (Wished w) word h = absurd h
mark_is_plain (Number k) word h = absurd h
mark_is_plain (Learnt k) word h = absurd h
mark_is_plain (Pivots k) word h = absurd h
mark_is_plain (Grid k) word h = absurd h
mark_is_plain (OfTier k) word h = absurd h
mark_is_plain (Most k) word h = absurd h
mark_is_plain (From k) word h = absurd h

placed_is_plain : (a : Argument) (word : List ℕ) → IsPlaced a word → IsPlain a word
placed_is_plain (Wished w) word h = h
placed_is_plain (Number k) word h = h
placed_is_plain Chain word h = absurd h
placed_is_plain Found word h = absurd h
placed_is_plain Sides word h = absurd h
placed_is_plain Request word h = absurd h
placed_is_plain (Learnt k) word h = absurd h
placed_is_plain (Pivots k) word h = absurd h
placed_is_plain (Grid k) word h = absurd h
placed_is_plain (OfTier k) word h = absurd h
placed_is_plain (Most k) word h = absurd h
placed_is_plain (From k) word h = absurd h

-- what is neither isn't
neither : (a : Argument) (word : List ℕ) → ((b : Argument) → IsMark b word → ⊥) → ((b : Argument) → IsPlaced b word → ⊥) → IsPlain a word → ⊥
neither Chain word marks places h = marks Chain h
neither Found word marks places h = marks Found h
neither Sides word marks places h = marks Sides h
neither Request word marks places h = marks Request h
neither (Wished w) word marks places h = places (Wished w) h
neither (Number k) word marks places h = places (Number k) h
neither (Learnt k) word marks places h = h
neither (Pivots k) word marks places h = h
neither (Grid k) word marks places h = h
neither (OfTier k) word marks places h = h
neither (Most k) word marks places h = h
neither (From k) word marks places h = h

pub placed_or_none : (word bytes : List ℕ) (o : Option Argument) → bytes ≡ word → ((a : Argument) → IsMark a word → ⊥) → MatchOption o ((a : Argument) → IsPlaced a bytes → ⊥) (λ a. IsPlaced a bytes)
    → MatchOption o ((a : Argument) → IsPlain a word → ⊥) (λ a. IsPlain a word)
placed_or_none word bytes None e marks places = λ a. neither a word marks (subst (λ x. (b : Argument) → IsPlaced b x → ⊥) e places)
placed_or_none word bytes (Some a) e marks place = placed_is_plain a word (subst (λ x. IsPlaced a x) e place)

-- a word that is neither properties nor a number up to the greatest is neither
pub no_placed : (word : List ℕ) (most : ℕ) → most ≡ MOST_ORDER → ((w : Wish) → IsWishWord w word → ⊥) → ((n : ℕ) → n ≤ most → word ≡ decimal n → ⊥) → (a : Argument) → IsPlaced a word → ⊥
no_placed word most e wishes numbers (Wished w) h = wishes w h
no_placed word most e wishes numbers (Number k) (few, is) = numbers k (omega (arith, e, few)) is
no_placed word most e wishes numbers Chain h = h
no_placed word most e wishes numbers Found h = h
no_placed word most e wishes numbers Sides h = h
no_placed word most e wishes numbers Request h = h
no_placed word most e wishes numbers (Learnt k) h = h
no_placed word most e wishes numbers (Pivots k) h = h
no_placed word most e wishes numbers (Grid k) h = h
no_placed word most e wishes numbers (OfTier k) h = h
no_placed word most e wishes numbers (Most k) h = h
no_placed word most e wishes numbers (From k) h = h

-- what is given with properties more
pub wish_placed : (s : Given) (w : Wish) (o : Option Places) (r : Option Given) → MatchOption r (o ≡ None) (λ g. (p : Places) × (o ≡ Some p) × (g ≡ record s { places = p }))
    → MatchOption o ((more : List Argument) (p : Places) → IsFollowed s.places (Wished w ∷ more) p → ⊥) (λ p. IsFollowed s.places (Wished w ∷ []) p)
    → MatchOption r ((g : Given) (more : List Argument) → Adds s (Wished w ∷ more) g → ⊥) (λ g. Adds s (Wished w ∷ []) g)
wish_placed s w None None told none = λ g more adds. none (filter_map place_in more) g.places adds.places
wish_placed s w None (Some g) (p, e, is) none = absurd (let clash : None ≡ Some p = e in cc)
wish_placed s w (Some q) None told followed = absurd (let clash : Some q ≡ None = told in cc)
wish_placed s w (Some q) (Some g) (p, e, is) followed =
    let same : q ≡ p = cc in
    subst (λ x. Adds s (Wished w ∷ []) x) (sym is) (record {
      places = subst (λ x. IsFollowed s.places (Wished w ∷ []) x) same followed;
      chain = append-nil (option_to_list (mark s.chain));
      learnt = append-nil (option_to_list s.learnt);
      pivots = append-nil (option_to_list s.pivots);
      grid = append-nil (option_to_list s.grid);
      tier = append-nil (option_to_list s.tier);
      most = append-nil (option_to_list s.most);
      from = append-nil (option_to_list s.from);
      found = append-nil (option_to_list (mark s.found));
      sides = append-nil (option_to_list (mark s.sides));
      request = append-nil (option_to_list (mark s.request));
    })

-- what is given with a number more
pub number_placed : (s : Given) (w : ℕ) (o : Option Places) (r : Option Given) → MatchOption r (o ≡ None) (λ g. (p : Places) × (o ≡ Some p) × (g ≡ record s { places = p }))
    → MatchOption o ((more : List Argument) (p : Places) → IsFollowed s.places (Number w ∷ more) p → ⊥) (λ p. IsFollowed s.places (Number w ∷ []) p)
    → MatchOption r ((g : Given) (more : List Argument) → Adds s (Number w ∷ more) g → ⊥) (λ g. Adds s (Number w ∷ []) g)
number_placed s w None None told none = λ g more adds. none (filter_map place_in more) g.places adds.places
number_placed s w None (Some g) (p, e, is) none = absurd (let clash : None ≡ Some p = e in cc)
number_placed s w (Some q) None told followed = absurd (let clash : Some q ≡ None = told in cc)
number_placed s w (Some q) (Some g) (p, e, is) followed =
    let same : q ≡ p = cc in
    subst (λ x. Adds s (Number w ∷ []) x) (sym is) (record {
      places = subst (λ x. IsFollowed s.places (Number w ∷ []) x) same followed;
      chain = append-nil (option_to_list (mark s.chain));
      learnt = append-nil (option_to_list s.learnt);
      pivots = append-nil (option_to_list s.pivots);
      grid = append-nil (option_to_list s.grid);
      tier = append-nil (option_to_list s.tier);
      most = append-nil (option_to_list s.most);
      from = append-nil (option_to_list s.from);
      found = append-nil (option_to_list (mark s.found));
      sides = append-nil (option_to_list (mark s.sides));
      request = append-nil (option_to_list (mark s.request));
    })

-- where a wish alone is given, the property that it alone is for is
pub one_told : (g : Given) (w : Wish) (o : Option Property) → g ≡ record nothing { places = places.Wish w } → MatchOption o ((p : Property) → w ≡ only p → ⊥) (λ p. w ≡ only p)
    → MatchOption o ((p : Property) → g ≡ record nothing { places = one_property p } → ⊥) (λ p. g ≡ record nothing { places = one_property p })
one_told g w (Some p) e is = e ∙ ap (λ x. record nothing { places = places.Wish x }) is
one_told g w None e none = λ p h. none p (let same : places.Wish w ≡ places.Wish (only p) = ap (λ x. x.places) (sym e ∙ h) in cc)
