-- A name that is being written, a character after the other: what is left of it makes the whole. Assumes nothing.
use Rattle.std.proofs.Common.{ℕ, List, [], ◌∷◌, ◌≡◌, refl, map, ap, sym}
use Rattle.std.specs.Prelude.{encode_utf8, encode_utf8_all}
use Rattle.std.specs.Fmt.{HasWritten, IsPlainFormatter}
use Rattle.std.specs.declared.fmt.Formatter.{Formatter}
use Rattle.std.proofs.Output.{has_written_append, has_written_of_eq}
use Rattle.reasons.specs.Sentences.{shown_char}

-- the bytes of characters as a line can show them
abbrev pub shown_text : List ℕ → List ℕ
shown_text cs = encode_utf8_all (map shown_char cs)

module _ {W : Type 0} (took : W → List ℕ → W → Type 0) where
  -- of a name with these characters all but the rest is written, from f to g
  pub record Writing (f : Formatter W) (all : List ℕ) (g : Formatter W) (rest : List ℕ) : Type 0 where
    pub plain : IsPlainFormatter g
    pub whole : (h : Formatter W) → HasWritten took g (shown_text rest) h → HasWritten took f (shown_text all) h

  pub writing_starts : (f : Formatter W) (all : List ℕ) → IsPlainFormatter f → Writing f all f all
  writing_starts f all p = record { plain = p; whole = λ h w. w }

  module _ {f g : Formatter W} {all rest : List ℕ} (w : Writing f all g rest) where
    pub writing_more : (c : ℕ) (left : List ℕ) (h : Formatter W) → rest ≡ c ∷ left → HasWritten took g (encode_utf8 (shown_char c)) h → Writing f all h left
    writing_more c left h e one =
        record {
          plain = one.plain;
          whole = λ k others. w.whole k (has_written_of_eq _ _ _ _ _ (sym (ap shown_text e)) (has_written_append _ _ _ _ _ _ one others));
        }

    pub writing_ends : rest ≡ [] → HasWritten took f (shown_text all) g
    writing_ends e = w.whole g (has_written_of_eq _ _ _ _ _ (sym (ap shown_text e)) (record { wrote = record { parts = []; calls = refl; whole = refl }; plain = w.plain }))
