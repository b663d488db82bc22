-- No setting of a synthesis is a NaN, for a request that is accepted.
use Rattle.std.specs.Prelude.{Option, None, Some}
use Prim.Native.Nat.{ℕ, zero, suc, ◌+◌, ◌*◌, ◌^◌, ◌≤◌, ◌<◌}
use mathlib.Core.Path.{◌≡◌, refl, sym, ◌∙◌}
use mathlib.Core.Bool.{Bool, true, false, not, ◌&&◌, cond}
use native.Mathlib.Omega.{arith}
use native.Mathlib.Decide.{ℕ_discrete}
use lib.Dec.{ltb, eqb}
use lib.IntN.{ℤ}
use lib.Ieee.{Float, nan, inf, fin, Format, prec, emax, low, up, down, binary32, of_int, odd, units, round, mul, lt, eq, le, is_nan}
use lib.Ieee.Scale.{finite}
use lib.ListN.{length, get_or, set, length-set}
use lib.Seq.{get_or-set_same, get_or-set_other}
use borrow.Author.Tests.{ltb-true}
use Rattle.font.specs.Single.{single, order_key, accepted_ratio}
use Rattle.font.specs.Attributes.{accepted_angle, accepted_style, accepted_attributes}
use Rattle.font.specs.Slant.{slant_under}
use Rattle.font.specs.declared.attributes.Angle.{Angle}
use Rattle.font.specs.declared.attributes.Angle.TheVariants.{Unstated, Degrees}
use Rattle.font.specs.declared.attributes.FontStyle.{FontStyle}
use Rattle.font.specs.declared.attributes.FontStyle.TheVariants.{Normal, Italic, Oblique}
use Rattle.font.specs.declared.attributes.Attributes.{Attributes}
use Rattle.matching.specs.declared.synthesis.Setting.{Setting}
use Rattle.matching.specs.declared.synthesis.Lean.{Lean}
use Rattle.matching.specs.declared.synthesis.Lean.TheVariants.{Upright, Varied, Skewed}
use Rattle.matching.specs.declared.synthesis.Varies.{Varies}
use Rattle.matching.specs.Synthesis.{differs_from, SynthesisAnswer}
use Rattle.matching.specs.Synthesis.{width_setting, weight_setting, degrees_of, italic_lean, leans_right, oblique_lean, lean_of, setting_of, unvaried, put, added, synthesized}
use Rattle.font.proofs.Opposites.{slant_number}
use Rattle.matching.proofs.Below.{clash, both}
use Rattle.matching.proofs.Standings.{pick}

-- ---- numbers

abbrev Number : Float → Type 0
Number x = is_nan x ≡ false

finite_number : (x : Float) → finite x ≡ true → Number x
unfolding is_nan
finite_number nan e = sym e
finite_number (inf s) e = refl
finite_number (fin s m d) e = refl

-- what is rounded is a number or an infinity
odd_number : (d : ℕ) (s : Bool) (q k l : ℕ) → Number (odd d s q k l)
unfolding odd is_nan
odd_number d s zero k l = refl
odd_number d s (suc q) k l = refl

units_number : (f : Format) (s : Bool) (q k : ℕ) → Number (units f s q k)
unfolding units is_nan
units_number f s q k =
    pick Number (ltb (q * 2 ^ k) (2 ^ (low f + suc (emax f)))) (odd_number (suc (prec f)) s q k (low f)) refl

round_number : (f : Format) (s : Bool) (a c : ℕ) → Number (round f s a c)
unfolding round
round_number f s a c = units_number f s _ _

-- "requested ratio times 100", of an accepted ratio
percent_number : (x : Float) → accepted_ratio x ≡ true → Number (mul binary32 x (single 100))
unfolding accepted_ratio le lt eq mul single of_int round
percent_number nan e = absurd (clash e refl)
percent_number (inf true) e = absurd (clash e refl)
percent_number (inf false) e = absurd (clash e refl)
percent_number (fin true m d) e = round_number binary32 true (m * up d * 100) (down d * 1)
percent_number (fin false m d) e = round_number binary32 false (m * up d * 100) (down d * 1)

-- ---- settings

abbrev Plain : Option Setting → Type 0
Plain None = Unit {0}
Plain (Some x) = Number x.value

whole_number : (n : ℕ) → Number (single n)
unfolding single of_int
whole_number n = round_number binary32 false n 1

width_plain : (v : Varies) (own wanted : Float) → accepted_ratio wanted ≡ true → Plain (width_setting v own wanted)
unfolding width_setting
width_plain v own wanted e =
    pick Plain (v.width && not (eqb (order_key own) (order_key wanted))) (percent_number wanted e) tt

weight_plain : (v : Varies) (wanted : Float) → finite wanted ≡ true → Plain (weight_setting v wanted)
unfolding weight_setting
weight_plain v wanted e =
    pick Plain (differs_from v.weight wanted) (finite_number wanted e) tt

-- of a lean
abbrev Leaning : Lean → Type 0
Leaning Upright = Unit {0}
Leaning (Varied x) = Number x.value
Leaning (Skewed degrees) = Unit {0}

setting_plain : (x : Lean) → Leaning x → Plain (setting_of x)
unfolding setting_of
setting_plain Upright e = tt
setting_plain (Varied x) e = e
setting_plain (Skewed degrees) e = tt

-- a slant is a number under every reading
under_number : (reading : ℕ) (x : Float) → Number x → Number (slant_under reading x)
under_number reading x e = slant_number reading x ∙ e

italic_leaning : (reading : ℕ) (v : Varies) → Leaning (italic_lean reading v)
unfolding italic_lean
italic_leaning reading v =
    pick Leaning v.italic (whole_number 1) (pick Leaning v.slant (under_number reading (single 14) (whole_number 14)) tt)

degrees_number : (a : Angle) → accepted_angle a ≡ true → Number (degrees_of a)
unfolding degrees_of accepted_angle
degrees_number Unstated e = whole_number 14
degrees_number (Degrees x) e = finite_number x e

oblique_leaning : (reading : ℕ) (v : Varies) (d : Float) → Number d → Leaning (oblique_lean reading v d)
unfolding oblique_lean
oblique_leaning reading v d e = pick Leaning v.slant (under_number reading d e) (pick Leaning (leans_right v d) (whole_number 1) tt)

leaning : (reading : ℕ) (v : Varies) (own wanted : FontStyle) → accepted_style wanted ≡ true → Leaning (lean_of reading v own wanted)
unfolding lean_of accepted_style
leaning reading v Normal Normal e = tt
leaning reading v Normal Italic e = italic_leaning reading v
leaning reading v Normal (Oblique a) e = oblique_leaning reading v (degrees_of a) (degrees_number a e)
leaning reading v Italic w e = tt
leaning reading v (Oblique b) w e = tt

-- ---- the three slots

record Slots (s : SynthesisAnswer) : Type 0 where
  three : length s.values ≡ 3
  within : s.len ≤ 3
  plain : (i : ℕ) → i < 3 → Number (get_or s.values i nan)

added_slots : (s : SynthesisAnswer) (x : Option Setting) → Slots s → Plain x → Slots (added s x)
unfolding added put
added_slots s None h e = h
added_slots s (Some x) h e = go (ltb s.len 3) refl
  where
    go : (b : Bool) → ltb s.len 3 ≡ b
        → Slots
        (cond b
        (record { refusal = s.refusal; tags = set s.tags s.len x.tag; values = set s.values s.len x.value; len = s.len + 1; embolden = s.embolden; skew = s.skew })
        (record { refusal = 29; tags = s.tags; values = s.values; len = s.len; embolden = s.embolden; skew = s.skew }))
    go true t =
        record {
          three = length-set s.values s.len x.value ∙ h.three;
          within = omega (arith, ltb-true s.len 3 t);
          plain = λ i l. slot i l (ℕ_discrete i s.len);
        }
      where
        slot : (i : ℕ) → i < 3 → Dec (i ≡ s.len) → Number (get_or (set s.values s.len x.value) i nan)
        slot i l (yes q) = rw (q, get_or-set_same s.values s.len x.value nan (omega (arith, h.three, ltb-true s.len 3 t))) e
        slot i l (no q) = rw (get_or-set_other s.values s.len i x.value nan q) (h.plain i l)
    go false t = record { three = h.three; within = h.within; plain = h.plain }

unvaried_slots : (bold : Bool) (skew : ℤ) → Slots (unvaried 0 bold skew)
unfolding unvaried
unvaried_slots bold skew = record { three = refl; within = omega arith; plain = zeros }
  where
    zeros : (i : ℕ) → i < 3 → Number (get_or (unvaried 0 bold skew).values i nan)
    zeros zero l = whole_number 0
    zeros (suc zero) l = whole_number 0
    zeros (suc (suc zero)) l = whole_number 0
    zeros (suc (suc (suc i))) l = absurd (omega arith)

pub setting_numbers : (reading : ℕ) (own : Attributes) (v : Varies) (a : Attributes) → accepted_attributes a ≡ true
    → (i : ℕ) → i < (synthesized reading own v a).len → is_nan (get_or (synthesized reading own v a).values i nan) ≡ false
unfolding synthesized accepted_attributes
setting_numbers reading own v a e i l = slots.plain i (omega (arith, slots.within))
  where
    parts : (accepted_ratio a.width.ratio && accepted_style a.style ≡ true) × (finite a.weight.value ≡ true)
    parts = both (accepted_ratio a.width.ratio && accepted_style a.style) (finite a.weight.value) e

    first : (accepted_ratio a.width.ratio ≡ true) × (accepted_style a.style ≡ true)
    first = both (accepted_ratio a.width.ratio) (accepted_style a.style) parts.0

    slots : Slots (synthesized reading own v a)
    slots =
        added_slots _ _
        (added_slots _ _
        (added_slots _ _ (unvaried_slots _ _) (width_plain v own.width.ratio a.width.ratio first.0))
        (weight_plain v a.weight.value parts.1))
        (setting_plain _ (leaning reading v own.style a.style first.1))
