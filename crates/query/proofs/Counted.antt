-- A section is its count and then its entries: what the code of a section answers, from what its parts do.
use Prim.Native.Nat.{ℕ, ◌-◌}
use mathlib.Core.Path.{◌≡◌, sym, ap, ◌∙◌}
use mathlib.Core.List.{List}
use Rattle.font.specs.Tables.{u16_at}
use Rattle.query.specs.Reader.{At}
use Rattle.query.specs.Reader.{got, many, ended}
use Rattle.query.specs.Fields.{count, counted}
use Rattle.query.specs.Sections.{Section, Entry, read_entry, limit_of}
use Rattle.query.specs.Positions.{NotedRun, NotedSection, KeptFrom}
use Rattle.query.proofs.Ends.{stops, goes, then_got, got_there, not_got, many_length}
use Rattle.query.proofs.Leaves.{count_read}

module _ (section : Section) (s : List ℕ) (at first : ℕ) (before : List ℕ) {a : At} (read : a ≡ ended (count (limit_of section) s at)) where
  -- the count is refused
  pub no_count : (a.refusal ≡ 0 → ⊥)
      → (a ≡ ended (counted (limit_of section) (read_entry section) s at)) × NotedSection section s at first before before
  unfolding counted
  no_count h =
      let end = stops (count (limit_of section)) (λ n. many n (read_entry section)) s at read h in
      (end, record { noted = λ xs q e. absurd (not_got end h e); kept = λ xs q e. absurd (not_got end h e) })

  -- its entries follow
  module _ (z : a.refusal ≡ 0) (n : ℕ) (is : n ≡ u16_at s at) {r : At} (run : r ≡ ended (many n (read_entry section) s a.at)) where
    counts : count (limit_of section) s at ≡ got n a.at
    counts =
        let g = got_there read z in
        g.1 ∙ ap (λ (m : ℕ). got m a.at) ((count_read (limit_of section) s at g.0 a.at g.1).value ∙ sym is)

    counted_ends : r ≡ ended (counted (limit_of section) (read_entry section) s at)
    unfolding counted
    counted_ends = goes (count (limit_of section)) (λ m. many m (read_entry section)) s at read z (λ m e. rw (same m e) run)
      where
        same : (m : ℕ) → count (limit_of section) s at ≡ got m a.at → m ≡ n
        same m e = let h : got m a.at ≡ got n a.at = sym e ∙ counts in cc

    -- what was read is what the entries are
    entries : (xs : List (Entry section)) (q : ℕ) → counted (limit_of section) (read_entry section) s at ≡ got xs q → many n (read_entry section) s a.at ≡ got xs q
    unfolding counted
    entries xs q e =
        let g = then_got (count (limit_of section)) (λ m. many m (read_entry section)) s at xs q e in
        let h : got g.0 g.1 ≡ got n a.at = sym g.2 ∙ counts in
        let number : g.0 ≡ n = cc in
        let place : g.1 ≡ a.at = cc in
        rw (number, place) at g.3

    pub section_read : {after : List ℕ} → NotedRun (read_entry section) s a.at n first after → KeptFrom (n - first) before after
        → (r ≡ ended (counted (limit_of section) (read_entry section) s at)) × NotedSection section s at first before after
    section_read {after} noted kept = (
      counted_ends,
      record {
        noted = λ xs q e. noted.noted xs q (entries xs q e);
        kept = λ xs q e. rw (many_length (read_entry section) n s a.at xs q (entries xs q e)) kept;
      },
    )
