use mathlib.Core.List.{append_assoc}
use mathlib.Core.Path.{◌∙◌, ap}
use mir.Facts.{to_z-of_z}
use native.Mathlib.Omega.{arith}
use Rattle.std.specs.Int.{w8, cast_unsigned}
use Rattle.query.specs.Record.{head_bytes}
use Rattle.query.proofs.Signs.{skew_byte}
use Rattle.query.proofs.Written.{half_bytes, flag_byte}
use Rattle.query.proofs.record.put_head.Goals as goal

pub returns : goal.returns
unfolding head_bytes
returns c =
    simp (
      c.put-3.ensures,
      c.put-2.ensures,
      c.put.ensures,
      c.to_be_bytes.ensures ∙ half_bytes c.args.offer.family (omega arith),
      c.to_be_bytes-2.ensures ∙ half_bytes c.args.offer.place (omega arith),
      c.from.ensures ∙ flag_byte c.args.embolden,
      c.cast_unsigned.ensures ∙ ap (cast_unsigned w8) (to_z-of_z c.ranges.skew) ∙ skew_byte c.args.skew,
      append_assoc,
    )
