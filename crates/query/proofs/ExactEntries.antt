-- The entries of a job are read exactly.
use Rattle.std.specs.Prelude.{Option, None, Some}
use Prim.Native.Nat.{ℕ, zero, suc, ◌+◌, ◌≤◌, ◌<◌}
use mathlib.Core.Path.{◌≡◌, refl, sym, ap, ◌∙◌}
use mathlib.Core.Bool.{Bool, true, false, cond}
use mathlib.Core.List.{List}
use native.Mathlib.Omega.{arith}
use lib.ListN.{length}
use lib.Dec.{eqb}
use lib.Ieee.{Float}
use Rattle.font.specs.declared.attributes.Angle.{Angle}
use Rattle.font.specs.declared.attributes.Angle.TheVariants.{Unstated, Degrees}
use Rattle.font.specs.declared.attributes.FontStyle.{FontStyle}
use Rattle.font.specs.declared.attributes.FontStyle.TheVariants.{Normal, Italic, Oblique}
use Rattle.font.specs.declared.attributes.Attributes.{Attributes}
use Rattle.font.specs.declared.attributes.FontWidth.{FontWidth}
use Rattle.font.specs.declared.attributes.FontWeight.{FontWeight}
use Rattle.font.specs.declared.overrides.FontInfoOverride.{FontInfoOverride}
use Rattle.font.specs.Attributes.{attributes_of}
use Rattle.font.specs.StatedAttributes.{bit}
use Rattle.query.specs.Sizes.{most_places}
use Rattle.query.specs.Reader.{got, Reader, done, ◌>>=◌}
use Rattle.query.specs.Fields.{half, word, ratio, value, counted, byte_counted, held_byte, face_number, mask, kind, spare_byte, spare_word, or_spare, font_file}
use Rattle.query.specs.Entries.{read_face, style_of_kind, read_angle, read_style, read_width, read_weight, style_or_spare, read_given, read_pair, read_override, read_family, read_requested, read_request}
use Rattle.query.specs.Layout.{Bytes, bytes8, bytes16, bytes32, bytes_of, after8, layout_font, layout_face, kind_of, angle_of, layout_angle, layout_style, gives_width, gives_style, gives_weight, mask_of, layout_width, layout_style_given, layout_weight, layout_given, layout_pair, layout_override, layout_family, layout_attributes, layout_request, Every, Fits8, Fits16, IsRatio, IsValue, FaceFits, AngleFits, StyleFits, WidthFits, StyleGivenFits, WeightFits, PairFits, OverrideFits, FamilyFits, RequestFits}
use Rattle.query.proofs.Ends.{then_got}
use Rattle.query.proofs.Stands.{Stands, join, split}
use Rattle.query.proofs.Exact.{Stood, Exact, exact_half, exact_word, exact_ratio, exact_value, exact_held, exact_face_number, exact_mask, exact_kind, exact_spare_byte, exact_spare_word}
use Rattle.query.proofs.ExactLists.{then_is, done_got, done_is, stood_as, exact_counted, exact_byte_counted}
use Rattle.query.proofs.ExactFonts.{exact_font}

false_is_not_true : {A : Type 0} → false ≡ true → A
false_is_not_true e = absurd (let z : ◌≡◌ {A = ℕ} 0 1 = cc in omega arith)

-- ---- faces

held_back : (n : ℕ) → n ≤ 1 → cond (eqb n 1) 1 0 ≡ n
held_back zero l = refl
held_back (suc zero) l = refl
held_back (suc (suc n)) l = absurd (omega arith)

held_small : (b : Bool) → cond b 1 0 ≤ 1
held_small true = omega arith
held_small false = omega arith

held_of : (b : Bool) → eqb (cond b 1 0) 1 ≡ b
held_of true = refl
held_of false = refl

pub exact_face : Exact read_face layout_face FaceFits
unfolding read_face layout_face
exact_face = record {
  sound = λ s B p a q h. let t = then_got held_byte _ s p a q h in
      let u = then_got font_file _ s t.1 a q t.3 in
      let d = done_got (record { held = eqb t.0 1; font = u.0 }) a s u.1 q u.3 in
      let f = exact_held.sound s B p t.0 t.1 t.2 in
      let g = exact_font.sound s B t.1 u.0 u.1 u.2 in
      stood_as layout_face FaceFits d.0 d.1
      (record {
        stands = rw (held_back t.0 f.within) (join f.stands g.stands);
        within = g.within;
      });
  complete = λ s p a q w h. let d = split (bytes8 (cond a.held 1 0)) (layout_font a.font) h in
      then_is held_byte _ s p (cond a.held 1 0) _ (exact_held.complete s p _ _ (held_small a.held) d.first)
      (then_is font_file _ s _ a.font q (exact_font.complete s _ a.font q w d.second)
      (rw (held_of a.held) (done_is a s q)));
}

-- ---- a number that is given, or a spare field

module _ {A C : Type 0} (r : Reader A) (e : A → List ℕ) (W : A → Type 0) (x : Exact r e W)
    (make : A → C) (none : C) (given : C → Bool) (layout : C → List ℕ) (Fits : C → Type 0)
    (given-none : given none ≡ false) (layout-none : layout none ≡ bytes32 0) (fits-none : Fits none)
    (given-make : (a : A) → given (make a) ≡ true) (layout-make : (a : A) → layout (make a) ≡ e a) (fits-make : (a : A) → W a → Fits (make a))
    (made : (c : C) → given c ≡ true → Fits c → (a : A) × (make a ≡ c) × W a) (not_made : (c : C) → given c ≡ false → none ≡ c) where
  or_spare_sound : (b : Bool) (s : List ℕ) → Bytes s → (p : ℕ) (c : C) (q : ℕ) → or_spare b none (r >>= (λ a. done (make a))) s p ≡ got c q
      → Stood s p (layout c) q ((given c ≡ b) × Fits c)
  unfolding or_spare
  or_spare_sound true s B p c q h =
      let t = then_got r _ s p c q h in
      let d = done_got (make t.0) c s t.1 q t.3 in
      let f = x.sound s B p t.0 t.1 t.2 in
      stood_as layout (λ y. (given y ≡ true) × Fits y) d.0 d.1
      (record { stands = rw (layout-make t.0) f.stands; within = (given-make t.0, fits-make t.0 f.within) })
  or_spare_sound false s B p c q h =
      let t = then_got spare_word _ s p c q h in
      let d = done_got none c s t.1 q t.3 in
      let f = exact_spare_word.sound s B p t.0 t.1 t.2 in
      stood_as layout (λ y. (given y ≡ false) × Fits y) d.0 d.1
      (record { stands = rw (layout-none, ← f.within) f.stands; within = (given-none, fits-none) })

  or_spare_complete : (b : Bool) (s : List ℕ) (p : ℕ) (c : C) (q : ℕ) → (given c ≡ b) × Fits c → Stands s p (layout c) q
      → or_spare b none (r >>= (λ a. done (make a))) s p ≡ got c q
  unfolding or_spare
  or_spare_complete true s p c q w h =
      let m = made c w.0 w.1 in
      let st : Stands s p (e m.0) q = rw (← layout-make m.0, m.1) h in
      then_is r _ s p m.0 q (x.complete s p m.0 q m.2 st) (done_is (make m.0) s q ∙ ap (λ (y : C). got y q) m.1)
  or_spare_complete false s p c q w h =
      let m = not_made c w.0 in
      let st : Stands s p (bytes32 0) q = rw (← layout-none, m) h in
      then_is spare_word _ s p 0 q (exact_spare_word.complete s p 0 q refl st) (done_is none s q ∙ ap (λ (y : C). got y q) m)

  exact_or_spare : (b : Bool) → Exact (or_spare b none (r >>= (λ a. done (make a)))) layout (λ c. (given c ≡ b) × Fits c)
  exact_or_spare b = record { sound = or_spare_sound b; complete = or_spare_complete b }

-- ---- styles

stated : Angle → Bool
stated Unstated = false
stated (Degrees x) = true

stated_made : (a : Angle) → stated a ≡ true → AngleFits a → (x : Float) × (Degrees x ≡ a) × IsValue x
unfolding stated AngleFits
stated_made Unstated h w = false_is_not_true h
stated_made (Degrees x) h w = (x, refl, w)

not_stated : (a : Angle) → stated a ≡ false → Unstated ≡ a
unfolding stated
not_stated Unstated h = refl
not_stated (Degrees x) h = false_is_not_true (sym h)

exact_angle : (b : Bool) → Exact (or_spare b Unstated read_angle) layout_angle (λ a. (stated a ≡ b) × AngleFits a)
unfolding read_angle layout_angle stated AngleFits
exact_angle b =
    exact_or_spare value bytes_of IsValue exact_value Degrees Unstated stated layout_angle AngleFits refl refl tt (λ x. refl) (λ x. refl) (λ x w. w) stated_made not_stated b

-- a kind and its angle make a style that has this kind and this angle
record Styled (k : ℕ) (a : Angle) : Type 0 where
  kind_is : kind_of (style_of_kind k a) ≡ k
  angle_is : angle_of (style_of_kind k a) ≡ a

styled : (k : ℕ) (a : Angle) → k ≤ 3 → stated a ≡ eqb k 3 → Styled k a
unfolding kind_of angle_of style_of_kind stated
styled zero Unstated l e = record { kind_is = refl; angle_is = refl }
styled (suc zero) Unstated l e = record { kind_is = refl; angle_is = refl }
styled (suc (suc zero)) Unstated l e = record { kind_is = refl; angle_is = refl }
styled (suc (suc (suc zero))) Unstated l e = false_is_not_true e
styled (suc (suc (suc (suc k)))) Unstated l e = absurd (omega arith)
styled zero (Degrees x) l e = false_is_not_true (sym e)
styled (suc zero) (Degrees x) l e = false_is_not_true (sym e)
styled (suc (suc zero)) (Degrees x) l e = false_is_not_true (sym e)
styled (suc (suc (suc zero))) (Degrees x) l e = record { kind_is = refl; angle_is = refl }
styled (suc (suc (suc (suc k)))) (Degrees x) l e = absurd (omega arith)

-- a style's kind and angle make it again
record Restyled (t : FontStyle) : Type 0 where
  small : kind_of t ≤ 3
  says : stated (angle_of t) ≡ eqb (kind_of t) 3
  again : style_of_kind (kind_of t) (angle_of t) ≡ t

restyled : (t : FontStyle) → Restyled t
unfolding kind_of angle_of style_of_kind stated
restyled Normal = record { small = omega arith; says = refl; again = refl }
restyled Italic = record { small = omega arith; says = refl; again = refl }
restyled (Oblique Unstated) = record { small = omega arith; says = refl; again = refl }
restyled (Oblique (Degrees x)) = record { small = omega arith; says = refl; again = refl }

pub exact_style : Exact read_style layout_style StyleFits
unfolding read_style layout_style
exact_style = record {
  sound = λ s B p a q h. let t = then_got kind _ s p a q h in
      let u = then_got (or_spare (eqb t.0 3) Unstated read_angle) _ s t.1 a q t.3 in
      let d = done_got (style_of_kind t.0 u.0) a s u.1 q u.3 in
      let f = exact_kind.sound s B p t.0 t.1 t.2 in
      let g = (exact_angle (eqb t.0 3)).sound s B t.1 u.0 u.1 u.2 in
      let m = styled t.0 u.0 f.within g.within.0 in
      stood_as layout_style StyleFits d.0 d.1
      (record { stands = rw (m.kind_is, m.angle_is) (join f.stands g.stands); within = rw m.angle_is g.within.1 });
  complete = λ s p a q w h. let d = split (bytes8 (kind_of a)) (layout_angle (angle_of a)) h in
      let m = restyled a in
      then_is kind _ s p (kind_of a) _ (exact_kind.complete s p (kind_of a) _ m.small d.first)
      (then_is (or_spare (eqb (kind_of a) 3) Unstated read_angle) _ s _ (angle_of a) q
      ((exact_angle (eqb (kind_of a) 3)).complete s _ (angle_of a) q (m.says, w) d.second)
      (done_is (style_of_kind (kind_of a) (angle_of a)) s q ∙ ap (λ (y : FontStyle). got y q) m.again));
}

-- ---- overrides

width_made : (w : Option FontWidth) → gives_width w ≡ true → WidthFits w → (x : Float) × (Some (record { ratio = x }) ≡ w) × IsRatio x
unfolding gives_width WidthFits
width_made None h f = false_is_not_true h
width_made (Some w) h f = (w.ratio, refl, f)

width_kept : (w : Option FontWidth) → gives_width w ≡ false → None ≡ w
unfolding gives_width
width_kept None h = refl
width_kept (Some w) h = false_is_not_true (sym h)

exact_width : (b : Bool) → Exact (or_spare b None read_width) layout_width (λ w. (gives_width w ≡ b) × WidthFits w)
unfolding read_width layout_width gives_width WidthFits
exact_width b =
    exact_or_spare ratio bytes_of IsRatio exact_ratio (λ x. Some (record { ratio = x })) None gives_width layout_width WidthFits refl refl tt (λ x. refl) (λ x. refl) (λ x w. w) width_made width_kept b

weight_made : (w : Option FontWeight) → gives_weight w ≡ true → WeightFits w → (x : Float) × (Some (record { value = x }) ≡ w) × IsValue x
unfolding gives_weight WeightFits
weight_made None h f = false_is_not_true h
weight_made (Some w) h f = (w.value, refl, f)

weight_kept : (w : Option FontWeight) → gives_weight w ≡ false → None ≡ w
unfolding gives_weight
weight_kept None h = refl
weight_kept (Some w) h = false_is_not_true (sym h)

exact_weight : (b : Bool) → Exact (or_spare b None read_weight) layout_weight (λ w. (gives_weight w ≡ b) × WeightFits w)
unfolding read_weight layout_weight gives_weight WeightFits
exact_weight b =
    exact_or_spare value bytes_of IsValue exact_value (λ x. Some (record { value = x })) None gives_weight layout_weight WeightFits refl refl tt (λ x. refl) (λ x. refl) (λ x w. w) weight_made weight_kept b

style_sound : (b : Bool) (s : List ℕ) → Bytes s → (p : ℕ) (t : Option FontStyle) (q : ℕ) → style_or_spare b s p ≡ got t q
    → Stood s p (layout_style_given t) q ((gives_style t ≡ b) × StyleGivenFits t)
unfolding style_or_spare layout_style_given gives_style StyleGivenFits
style_sound true s B p a q h =
    let t = then_got read_style _ s p a q h in
    let d = done_got (Some t.0) a s t.1 q t.3 in
    let f = exact_style.sound s B p t.0 t.1 t.2 in
    stood_as layout_style_given (λ y. (gives_style y ≡ true) × StyleGivenFits y) d.0 d.1
    (record { stands = f.stands; within = (refl, f.within) })
style_sound false s B p a q h =
    let t = then_got spare_byte _ s p a q h in
    let u = then_got spare_word _ s t.1 a q t.3 in
    let d = done_got None a s u.1 q u.3 in
    let f = exact_spare_byte.sound s B p t.0 t.1 t.2 in
    let g = exact_spare_word.sound s B t.1 u.0 u.1 u.2 in
    let fs : Stands s p (bytes8 0) t.1 = rw (← f.within) f.stands in
    let gs : Stands s t.1 (bytes32 0) u.1 = rw (← g.within) g.stands in
    stood_as layout_style_given (λ y. (gives_style y ≡ false) × StyleGivenFits y) d.0 d.1
    (record { stands = join fs gs; within = (refl, tt) })

style_complete : (b : Bool) (t : Option FontStyle) (s : List ℕ) (p q : ℕ) → (gives_style t ≡ b) × StyleGivenFits t → Stands s p (layout_style_given t) q
    → style_or_spare b s p ≡ got t q
unfolding style_or_spare layout_style_given gives_style StyleGivenFits
style_complete true None s p q w h = false_is_not_true w.0
style_complete true (Some t) s p q w h =
    then_is read_style _ s p t q (exact_style.complete s p t q w.1 h) (done_is (Some t) s q)
style_complete false (Some t) s p q w h = false_is_not_true (sym w.0)
style_complete false None s p q w h =
    let d = split (bytes8 0) (bytes32 0) h in
    then_is spare_byte _ s p 0 _ (exact_spare_byte.complete s p 0 _ refl d.first)
    (then_is spare_word _ s _ 0 q (exact_spare_word.complete s _ 0 q refl d.second) (done_is None s q))

exact_style_given : (b : Bool) → Exact (style_or_spare b) layout_style_given (λ t. (gives_style t ≡ b) × StyleGivenFits t)
exact_style_given b = record { sound = style_sound b; complete = λ s p t q w h. style_complete b t s p q w h }

-- what an override of the mask m gives
record GivenBy (m : ℕ) (o : FontInfoOverride) : Type 0 where
  width : (gives_width o.width ≡ bit 0 m) × WidthFits o.width
  style : (gives_style o.style ≡ bit 1 m) × StyleGivenFits o.style
  weight : (gives_weight o.weight ≡ bit 2 m) × WeightFits o.weight

exact_given : (m : ℕ) → Exact (read_given m) layout_given (GivenBy m)
unfolding read_given layout_given
exact_given m = record {
  sound = λ s B p a q h. let t = then_got (or_spare (bit 0 m) None read_width) _ s p a q h in
      let u = then_got (style_or_spare (bit 1 m)) _ s t.1 a q t.3 in
      let v = then_got (or_spare (bit 2 m) None read_weight) _ s u.1 a q u.3 in
      let d = done_got (record { width = t.0; style = u.0; weight = v.0 }) a s v.1 q v.3 in
      let f = (exact_width (bit 0 m)).sound s B p t.0 t.1 t.2 in
      let g = (exact_style_given (bit 1 m)).sound s B t.1 u.0 u.1 u.2 in
      let k = (exact_weight (bit 2 m)).sound s B u.1 v.0 v.1 v.2 in
      stood_as layout_given (GivenBy m) d.0 d.1
      (record {
        stands = join f.stands (join g.stands k.stands);
        within = record { width = f.within; style = g.within; weight = k.within };
      });
  complete = λ s p a q w h. let d = split (layout_width a.width) _ h in
      let c = split (layout_style_given a.style) (layout_weight a.weight) d.second in
      then_is (or_spare (bit 0 m) None read_width) _ s p a.width _ ((exact_width (bit 0 m)).complete s p a.width _ w.width d.first)
      (then_is (style_or_spare (bit 1 m)) _ s _ a.style _ ((exact_style_given (bit 1 m)).complete s _ a.style _ w.style c.first)
      (then_is (or_spare (bit 2 m) None read_weight) _ s _ a.weight q ((exact_weight (bit 2 m)).complete s _ a.weight q w.weight c.second)
      (done_is a s q)));
}

-- the three bits of a mask, and the mask of three bits
mask_back : (m : ℕ) → m ≤ 7 → cond (bit 0 m) 1 0 + (cond (bit 1 m) 2 0 + cond (bit 2 m) 4 0) ≡ m
unfolding bit
mask_back zero l = refl
mask_back (suc zero) l = refl
mask_back (suc (suc zero)) l = refl
mask_back (suc (suc (suc zero))) l = refl
mask_back (suc (suc (suc (suc zero)))) l = refl
mask_back (suc (suc (suc (suc (suc zero))))) l = refl
mask_back (suc (suc (suc (suc (suc (suc zero)))))) l = refl
mask_back (suc (suc (suc (suc (suc (suc (suc zero))))))) l = refl
mask_back (suc (suc (suc (suc (suc (suc (suc (suc m)))))))) l = absurd (omega arith)

record Bits (a b c : Bool) (m : ℕ) : Type 0 where
  lowest : a ≡ bit 0 m
  middle : b ≡ bit 1 m
  highest : c ≡ bit 2 m
  small : m ≤ 7

bits : (a b c : Bool) → Bits a b c (cond a 1 0 + (cond b 2 0 + cond c 4 0))
unfolding bit
bits true true true = record { lowest = refl; middle = refl; highest = refl; small = omega arith }
bits true true false = record { lowest = refl; middle = refl; highest = refl; small = omega arith }
bits true false true = record { lowest = refl; middle = refl; highest = refl; small = omega arith }
bits true false false = record { lowest = refl; middle = refl; highest = refl; small = omega arith }
bits false true true = record { lowest = refl; middle = refl; highest = refl; small = omega arith }
bits false true false = record { lowest = refl; middle = refl; highest = refl; small = omega arith }
bits false false true = record { lowest = refl; middle = refl; highest = refl; small = omega arith }
bits false false false = record { lowest = refl; middle = refl; highest = refl; small = omega arith }

mask_is : (m : ℕ) (o : FontInfoOverride) → m ≤ 7 → GivenBy m o → mask_of o ≡ m
unfolding mask_of
mask_is m o l w = rw (w.width.0, w.style.0, w.weight.0) (mask_back m l)

bits_of : (o : FontInfoOverride) → Bits (gives_width o.width) (gives_style o.style) (gives_weight o.weight) (mask_of o)
unfolding mask_of
bits_of o = bits (gives_width o.width) (gives_style o.style) (gives_weight o.weight)

pub exact_pair : Exact read_pair layout_pair PairFits
unfolding read_pair layout_pair
exact_pair = record {
  sound = λ s B p a q h. let t = then_got word _ s p a q h in
      let u = then_got value _ s t.1 a q t.3 in
      let d = done_got (record { tag = t.0; value = u.0 }) a s u.1 q u.3 in
      let f = exact_word.sound s B p t.0 t.1 t.2 in
      let g = exact_value.sound s B t.1 u.0 u.1 u.2 in
      stood_as layout_pair PairFits d.0 d.1
      (record { stands = join f.stands g.stands; within = record { tag = f.within; value = g.within } });
  complete = λ s p a q w h. let d = split (bytes32 a.tag) (bytes_of a.value) h in
      then_is word _ s p a.tag _ (exact_word.complete s p a.tag _ w.tag d.first)
      (then_is value _ s _ a.value q (exact_value.complete s _ a.value q w.value d.second) (done_is a s q));
}

exact_pairs : Exact (byte_counted read_pair) (after8 layout_pair) (λ xs. Fits8 (length xs) × Every PairFits xs)
exact_pairs = exact_byte_counted read_pair layout_pair PairFits exact_pair

pub exact_override : (n : ℕ) → Exact (read_override n) layout_override (OverrideFits n)
unfolding read_override layout_override
exact_override n = record {
  sound = λ s B p a q h. let t = then_got (face_number n) _ s p a q h in
      let u = then_got mask _ s t.1 a q t.3 in
      let v = then_got (read_given u.0) _ s u.1 a q u.3 in
      let x = then_got (byte_counted read_pair) _ s v.1 a q v.3 in
      let d = done_got (record { face = t.0; given = v.0; pairs = x.0 }) a s x.1 q x.3 in
      let f = (exact_face_number n).sound s B p t.0 t.1 t.2 in
      let g = exact_mask.sound s B t.1 u.0 u.1 u.2 in
      let k = (exact_given u.0).sound s B u.1 v.0 v.1 v.2 in
      let y = exact_pairs.sound s B v.1 x.0 x.1 x.2 in
      stood_as layout_override (OverrideFits n) d.0 d.1
      (record {
        stands = rw (mask_is u.0 v.0 g.within k.within) (join f.stands (join g.stands (join k.stands y.stands)));
        within = record {
          face = f.within;
          width = k.within.width.1;
          style = k.within.style.1;
          weight = k.within.weight.1;
          pairs = y.within;
        };
      });
  complete = λ s p a q w h. let d = split (bytes16 a.face) _ h in
      let c = split (bytes8 (mask_of a.given)) _ d.second in
      let e = split (layout_given a.given) (after8 layout_pair a.pairs) c.second in
      let m = bits_of a.given in
      let by : GivenBy (mask_of a.given) a.given =
      record { width = (m.lowest, w.width); style = (m.middle, w.style); weight = (m.highest, w.weight) } in
      then_is (face_number n) _ s p a.face _ ((exact_face_number n).complete s p a.face _ w.face d.first)
      (then_is mask _ s _ (mask_of a.given) _ (exact_mask.complete s _ (mask_of a.given) _ m.small c.first)
      (then_is (read_given (mask_of a.given)) _ s _ a.given _ ((exact_given (mask_of a.given)).complete s _ a.given _ by e.first)
      (then_is (byte_counted read_pair) _ s _ a.pairs q (exact_pairs.complete s _ a.pairs q w.pairs e.second) (done_is a s q))));
}

-- ---- families

pub exact_family : (n : ℕ) → Exact (read_family n) layout_family (FamilyFits n)
unfolding read_family layout_family
exact_family n =
    let x = exact_counted (face_number n) bytes16 (λ i. (i < n) × Fits16 i) (exact_face_number n) most_places in
    record {
      sound = λ s B p a q h. let t = then_got (counted most_places (face_number n)) _ s p a q h in
          let d = done_got (record { members = t.0 }) a s t.1 q t.3 in
          let f = x.sound s B p t.0 t.1 t.2 in
          stood_as layout_family (FamilyFits n) d.0 d.1
          (record { stands = f.stands; within = record { few = f.within.0; members = f.within.1 } });
      complete = λ s p a q w h.
          then_is (counted most_places (face_number n)) _ s p a.members q (x.complete s p a.members q (w.few, w.members) h) (done_is a s q);
    }

-- ---- requests

record AttributesFit (a : Attributes) : Type 0 where
  ratio : IsRatio a.width.ratio
  style : StyleFits a.style
  weight : IsValue a.weight.value

exact_requested : Exact read_requested layout_attributes AttributesFit
unfolding read_requested layout_attributes
exact_requested = record {
  sound = λ s B p a q h. let t = then_got ratio _ s p a q h in
      let u = then_got read_style _ s t.1 a q t.3 in
      let v = then_got value _ s u.1 a q u.3 in
      let d = done_got (attributes_of t.0 u.0 v.0) a s v.1 q v.3 in
      let f = exact_ratio.sound s B p t.0 t.1 t.2 in
      let g = exact_style.sound s B t.1 u.0 u.1 u.2 in
      let k = exact_value.sound s B u.1 v.0 v.1 v.2 in
      stood_as layout_attributes AttributesFit d.0 d.1
      (record {
        stands = join f.stands (join g.stands k.stands);
        within = record { ratio = f.within; style = g.within; weight = k.within };
      });
  complete = λ s p a q w h. let d = split (bytes_of a.width.ratio) _ h in
      let c = split (layout_style a.style) (bytes_of a.weight.value) d.second in
      then_is ratio _ s p a.width.ratio _ (exact_ratio.complete s p a.width.ratio _ w.ratio d.first)
      (then_is read_style _ s _ a.style _ (exact_style.complete s _ a.style _ w.style c.first)
      (then_is value _ s _ a.weight.value q (exact_value.complete s _ a.weight.value q w.weight c.second) (done_is a s q)));
}

exact_numbers : Exact (byte_counted half) (after8 bytes16) (λ xs. Fits8 (length xs) × Every Fits16 xs)
exact_numbers = exact_byte_counted half bytes16 Fits16 exact_half

pub exact_request : Exact read_request layout_request RequestFits
unfolding read_request layout_request
exact_request = record {
  sound = λ s B p a q h. let t = then_got half _ s p a q h in
      let u = then_got read_requested _ s t.1 a q t.3 in
      let v = then_got (byte_counted half) _ s u.1 a q u.3 in
      let x = then_got (byte_counted half) _ s v.1 a q v.3 in
      let d = done_got (record { most = t.0; attributes = u.0; families = v.0; fallbacks = x.0 }) a s x.1 q x.3 in
      let f = exact_half.sound s B p t.0 t.1 t.2 in
      let g = exact_requested.sound s B t.1 u.0 u.1 u.2 in
      let k = exact_numbers.sound s B u.1 v.0 v.1 v.2 in
      let y = exact_numbers.sound s B v.1 x.0 x.1 x.2 in
      stood_as layout_request RequestFits d.0 d.1
      (record {
        stands = join f.stands (join g.stands (join k.stands y.stands));
        within = record {
          most = f.within;
          ratio = g.within.ratio;
          style = g.within.style;
          weight = g.within.weight;
          families = k.within;
          fallbacks = y.within;
        };
      });
  complete = λ s p a q w h. let d = split (bytes16 a.most) _ h in
      let c = split (layout_attributes a.attributes) _ d.second in
      let e = split (after8 bytes16 a.families) (after8 bytes16 a.fallbacks) c.second in
      then_is half _ s p a.most _ (exact_half.complete s p a.most _ w.most d.first)
      (then_is read_requested _ s _ a.attributes _
      (exact_requested.complete s _ a.attributes _ (record { ratio = w.ratio; style = w.style; weight = w.weight }) c.first)
      (then_is (byte_counted half) _ s _ a.families _ (exact_numbers.complete s _ a.families _ w.families e.first)
      (then_is (byte_counted half) _ s _ a.fallbacks q (exact_numbers.complete s _ a.fallbacks q w.fallbacks e.second) (done_is a s q))));
}
