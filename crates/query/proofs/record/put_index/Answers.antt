use mathlib.Core.Path.{◌∙◌}
use mathlib.Core.List.{append_assoc}
use native.Mathlib.Omega.{arith}
use Rattle.query.specs.Record.{index_bytes}
use Rattle.query.proofs.Written.{word_bytes, flag_byte}
use Rattle.query.proofs.record.put_index.Goals as goal

pub returns : goal.returns
unfolding index_bytes
returns c =
    simp (
      c.put-2.ensures,
      c.put.ensures,
      c.to_be_bytes.ensures ∙ word_bytes c.args.index.subtable_offset (omega arith),
      c.from-symbol.ensures ∙ flag_byte c.args.index.is_symbol,
      c.from-mac_roman.ensures ∙ flag_byte c.args.index.is_mac_roman,
      append_assoc,
    )
