use Rattle.std.specs.Prelude.{Option}
use Rattle.std.specs.Bool.{then_some}
use Rattle.std.specs.Option.{IfSome}
use mir.Syntax.{w8}
use mir.Facts.{to_z-of_z}
use Prim.Native.Nat.{ℕ, ◌≤◌}
use mathlib.Core.Path.{◌≡◌, refl, sym, ◌∙◌, ap}
use mathlib.Core.Bool.{Bool, true, false}
use mathlib.Core.List.{append_assoc}
use native.Mathlib.Omega.{arith}
use lib.Dec.{ltb}
use lib.Ieee.{is_nan, nan}
use lib.ListN.{length, get_or, get_or-map}
use lib.Seq.{take_all}
use borrow.Author.Tests.{ltb-true}
use borrow.Author.Rules.{rules}
use Rattle.matching.specs.declared.synthesis.Setting.{Setting}
use Rattle.matching.specs.declared.synthesis.Synthesis.{Synthesis}
use Rattle.matching.specs.Synthesis.{laid_out}
use Rattle.query.specs.Sizes.{record_size}
use Rattle.query.specs.Record.{head_bytes, slot_bytes, setting_bytes, slot_at, Numbers, record_bytes}
use Rattle.query.proofs.Written.{put_on}
use Rattle.query.proofs.record.write_record.Goals as goal

-- a slot's setting, as it is laid out
module _ (s : Synthesis) (i : ℕ) where
  abbrev there : Setting
  there = get_or s.settings i (record { tag = 0; value = nan })

  value_there : get_or (laid_out s).values i nan ≡ there.value
  unfolding laid_out
  value_there = get_or-map (λ (x : Setting). x.value) s.settings i (record { tag = 0; value = nan })

  tag_there : get_or (laid_out s).tags i 0 ≡ there.tag
  unfolding laid_out
  tag_there = get_or-map (λ (x : Setting). x.tag) s.settings i (record { tag = 0; value = nan })

  module _ {o : Option Setting} (is : o ≡ then_some (ltb i s.len) there) where
    no_nan : Numbers (laid_out s) → IfSome o (λ x. is_nan x.value ≡ false)
    unfolding laid_out
    no_nan numbers = rw is (go (ltb i s.len) refl)
      where
        go : (b : Bool) → ltb i s.len ≡ b → IfSome (then_some b there) (λ x. is_nan x.value ≡ false)
        go true used = ap is_nan (sym value_there) ∙ numbers i (ltb-true i s.len used)
        go false _ = tt

    slot_is : setting_bytes o ≡ slot_at s.len (laid_out s).tags (laid_out s).values i
    unfolding slot_at setting_bytes slot_bytes
    slot_is = ap setting_bytes is ∙ go (ltb i s.len) ∙ rw (value_there, tag_there)
      where
        go : (b : Bool) → setting_bytes (then_some b there) ≡ slot_bytes b there.tag there.value
        go true = refl
        go false = refl

pub put_slot-requires : goal.put_slot-requires
put_slot-requires c = (search rules, no_nan c.args.synthesis 0 c.then_some.ensures c.requires.2)

pub put_slot-requires-2 : goal.put_slot-requires-2
put_slot-requires-2 c = (search rules, no_nan c.args.synthesis 1 c.then_some-2.ensures c.requires.2)

pub put_slot-requires-3 : goal.put_slot-requires-3
put_slot-requires-3 c = (search rules, no_nan c.args.synthesis 2 c.then_some-3.ensures c.requires.2)

pub returns : goal.returns
unfolding record_bytes laid_out
returns c =
    let s = c.args.synthesis in
    let long : length c.put_index.new.out ≤ record_size = omega (arith, c.put_index.auto.out) in
    sym (take_all record_size c.put_index.new.out long)
    ∙ put_on c.put_index.ensures
    (put_on c.put_slot-3.ensures
    (put_on c.put_slot-2.ensures
    (put_on c.put_slot.ensures (c.put_head.ensures ∙ ap (λ z. head_bytes c.args.offer s.embolden z s.len) (to_z-of_z {w = w8} {z = s.skew} (record { sfits = search rules }))) (slot_is s 0 c.then_some.ensures)) (slot_is s 1 c.then_some-2.ensures))
    (slot_is s 2 c.then_some-3.ensures))
    refl
    ∙ simp append_assoc
