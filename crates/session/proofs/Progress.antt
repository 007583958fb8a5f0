-- A reader on its way through a file, which may have given as many records as it has read bytes, and no more.
use Rattle.std.proofs.Common.{◌≡◌, ℕ, ◌+◌, ◌-◌, ◌<◌, ◌≤◌, List, [], ◌∷◌, ◌++◌, length, Some, None, Ok, Option, sym, refl, ap, ◌∙◌, subst, arith, length-append}
use Rattle.std.specs.List.{flat_map}
use Rattle.std.proofs.lemmas.List.{flat_map_more}
use Rattle.ps2.specs.declared.refusal.Refusal.{Refusal}
use Rattle.session.specs.declared.reader.Reader.{Reader}
use Rattle.session.specs.Records.{Item, bytes_of}
use Rattle.session.specs.Readers.{file_of, left_of, Handed, AtStart, Opened, Step, Keeps}

pub record Progress (is : List Item) (r : Reader) (number : ℕ) : Type 0 where
  pub handed : Handed is r
  pub short : length (file_of r) ≤ 65536
  pub few : number + length (left_of r) ≤ length (file_of r)

-- a reader that a file was opened with is at its start
pub opened_start : (o : Option Refusal) (file : List ℕ) (r : Reader) → Opened o file (Ok r) → AtStart (file_of r) r
opened_start None file r h = record { whole = refl; start = h.start ∙ sym h.whole; short = subst (λ f. length f ≤ 65536) (sym h.whole) h.short }
opened_start (Some e) file r h = absurd h

module _ {is : List Item} {r : Reader} {number : ℕ} (so : Progress is r number) where
  -- where the reader stands
  pub place_is : length (file_of r) - length (left_of r) ≡ length (flat_map bytes_of is)
  place_is = omega (arith, simp length-append at (ap length so.handed))

  module _ (s : Reader) (i : Item) (step : Step r (Ok (Some i)) s) (keeps : Keeps r (Ok (Some i)) s) where
    -- a record more
    pub size : length (flat_map bytes_of (is ++ (i ∷ []))) ≡ length (flat_map bytes_of is) + length (bytes_of i)
    size = ap length (sym (flat_map_more bytes_of [] is i)) ∙ length-append (flat_map bytes_of is) (bytes_of i)

    pub shorter : length (left_of s) < length (left_of r)
    shorter = omega (arith, size, ap length step.same, simp length-append at (ap length so.handed), simp length-append at (ap length (keeps.joins is so.handed)))

    pub onward : Progress (is ++ (i ∷ [])) s (number + 1)
    onward = record {
      handed = keeps.joins is so.handed;
      short = subst (λ f. length f ≤ 65536) (sym step.same) so.short;
      few = omega (arith, shorter, so.few, ap length step.same);
    }
