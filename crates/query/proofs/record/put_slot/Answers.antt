use Prim.Native.Nat.{◌+◌, ◌<◌}
use mathlib.Core.List.{append_assoc}
use mathlib.Core.Path.{◌≡◌, ◌∙◌}
use native.Mathlib.Omega.{arith}
use lib.Ieee.{binary32, to_bits}
use lib.Ieee.Bits.{to_bits-lt}
use Rattle.query.specs.Record.{slot_bytes, setting_bytes}
use Rattle.query.specs.Layout.{bytes32, bytes16}
use Rattle.query.proofs.Written.{word_bytes}
use borrow.Author.Rules.{rules}
use Rattle.query.proofs.record.put_slot.Goals as goal

pub returns-in-None : goal.returns-in-None
unfolding setting_bytes slot_bytes bytes32 bytes16
returns-in-None c = simp (c.put.ensures, c.in-None.is)

pub returns-in-Some : goal.returns-in-Some
unfolding setting_bytes slot_bytes
returns-in-Some c =
    let s = c.in-Some.setting in
    let end : c.args.at + 8 ≡ c.args.at + 4 + 4 = omega arith in
    let low : to_bits binary32 s.value < 4294967296 = to_bits-lt binary32 s.value (search rules) in
    let tag = c.to_be_bytes.ensures ∙ word_bytes s.tag (omega arith) in
    let value = c.to_be_bytes-in-Some.ensures ∙ word_bytes (to_bits binary32 s.value) low in
    simp (end, c.put-in-Some-2.ensures, c.put-in-Some.ensures, tag, value, c.in-Some.is, append_assoc)
