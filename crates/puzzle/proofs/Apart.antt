-- A puzzle in memory is its parts in memory, side by side: its board, its given walls and clues, how many there are of each, and its kind. At any share the parts are
-- had at once, and the parts of any puzzle, with what is left, are that puzzle. Assumes `Logic`.
use Prim.Native.Nat.{ℕ, ◌+◌}
use mathlib.Core.Path.{◌≡◌, refl, sym}
use mathlib.Core.List.{List, [], ◌∷◌}
use seplogic.Ra.Ura.{Ura}
use mir.Syntax.{w8, w16, w64, ty_int, ty_array}
use base.Logic.{SProp, ent, sep, wand, all, all_e, apply∗, id⊢}
use base.Fml.{Share, Fml, ftrue, fsep}
use types.Logic.{Logic, sem}
use types.Kit.{Item, ‵, raw, ◌⊛◌, mean, ◌$◌, ◌∵◌, !, qed, by, move, keep, use1, use2, split, join, rewrite, fsplit, fsplit3, fjoin, assume, each, frame}
use denote.RattleType.{RattleType, Denots}
use denote.Memory.{part_at, part_of}
use denote.Builtin.{u8, u16, usize}
use denote.Array.{Array}
use denote.Steps.{nothing}
use denote.Struct.Struct.{Struct}
use denote.Struct.Declared.{fields, shape}
use denote.Struct.Laws.{lawfuls}
use denote.Struct.Members.{Member, parts_at}
use denote.Struct.Parts.{PartsBack, Struct-parts}
use Rattle.board.specs.declared.Board.{Board}
use Rattle.board.specs.contracts.Board as T
use Rattle.board.proofs.Board.TheLaws as T'
use Rattle.puzzle.specs.declared.Puzzle.{Puzzle}
use Rattle.puzzle.specs.contracts.Puzzle as P
use Rattle.puzzle.proofs.Puzzle.TheLaws as P'

-- the rows of a puzzle's arrays
abbrev pub Walls : RattleType
Walls = Array u16 1984

abbrev pub Clues : RattleType
Clues = Array u16 1024

-- the fields of a puzzle
abbrev members : List Member
members =
    record { row = (T.the_field).row; ty = T'.mir } ∷ record { row = Walls; ty = ty_array (ty_int w16) 1984 } ∷ record { row = usize; ty = ty_int w64 }
    ∷ record { row = Clues; ty = ty_array (ty_int w16) 1024 } ∷ record { row = usize; ty = ty_int w64 } ∷ record { row = u8; ty = ty_int w8 } ∷ []

-- each part at its place
abbrev pub board_at : Share → Board → ℕ → ℕ → Fml
board_at q k b o = part_at T.the_row q k b (o + 0)

abbrev pub given_at : Share → List ℕ → ℕ → ℕ → Fml
given_at q s b o = part_at Walls q s b (o + 5976)

abbrev pub given_len_at : Share → ℕ → ℕ → ℕ → Fml
given_len_at q n b o = part_at usize q n b (o + 9944)

abbrev pub clues_at : Share → List ℕ → ℕ → ℕ → Fml
clues_at q s b o = part_at Clues q s b (o + 9952)

abbrev pub clues_len_at : Share → ℕ → ℕ → ℕ → Fml
clues_len_at q n b o = part_at usize q n b (o + 12000)

abbrev pub kind_at : Share → ℕ → ℕ → ℕ → Fml
kind_at q n b o = part_at u8 q n b (o + 12008)

module _ {M : Type 1} {𝓤 : Ura M} (𝓛 : Logic 𝓤) where
  abbrev pub Parts : Share → Puzzle → ℕ → ℕ → Item 𝓤
  Parts q h b o =
      ‵ (board_at q h.board b o) ⊛ ‵ (given_at q h.given b o) ⊛ ‵ (given_len_at q h.given_len b o) ⊛ ‵ (clues_at q h.clues b o) ⊛ ‵ (clues_len_at q h.clues_len b o)
      ⊛ ‵ (kind_at q h.kind b o)

  -- the parts of any puzzle are that puzzle
  abbrev pub Back : Share → ℕ → ℕ → SProp 𝓤
  Back q b o = all 𝓤 (λ (h : Puzzle). wand 𝓤 (mean 𝓛 (Parts q h b o)) (sem 𝓛 (part_at P.the_row q h b o)))

  module _ (q : Share) (b o : ℕ) where
    abbrev PuzzleBack : SProp 𝓤
    PuzzleBack = PartsBack 𝓛 q (P.the_type).name members b o

    abbrev PuzzleAt : Denots (fields P.the_type) → SProp 𝓤
    PuzzleAt a = wand 𝓤 (sem 𝓛 (parts_at q members 0 a b o)) (sem 𝓛 (part_at (Struct (shape P.the_type)) q a b o))

    puzzle_parts : (h : Puzzle) → ent 𝓤 (sem 𝓛 (part_at P.the_row q h b o)) (sep 𝓤 (sem 𝓛 (parts_at q members 0 ((P.the_type).to h) b o)) PuzzleBack)
    unfolding part_of
    puzzle_parts h = Struct-parts 𝓛 q (P.the_type).name members (lawfuls 𝓛 (P.the_type).parts P'.the_laws) ((P.the_type).to h) b o

    abbrev tuple_at : Board → Fml
    tuple_at k = part_at (Struct (shape T.the_type)) q ((T.the_type).to k) b (o + 0)

    board_out : (k : Board) → ent 𝓤 (sem 𝓛 (tuple_at k)) (sem 𝓛 (board_at q k b o))
    unfolding part_of
    board_out k = id⊢ 𝓤 _

    board_in : (k : Board) → ent 𝓤 (sem 𝓛 (board_at q k b o)) (sem 𝓛 (tuple_at k))
    unfolding part_of
    board_in k = id⊢ 𝓤 _

    puzzle_in : (h : Puzzle) → ent 𝓤 (sem 𝓛 (part_at (Struct (shape P.the_type)) q ((P.the_type).to h) b o)) (sem 𝓛 (part_at P.the_row q h b o))
    unfolding part_of
    puzzle_in h = id⊢ 𝓤 _

    abbrev rest_at : Puzzle → Fml
    rest_at h = fsep (given_at q h.given b o) (fsep (given_len_at q h.given_len b o) (fsep (clues_at q h.clues b o) (fsep (clues_len_at q h.clues_len b o) (fsep (kind_at q h.kind b o) ftrue))))

    parts_are : (h : Puzzle) → fsep (tuple_at h.board) (rest_at h) ≡ parts_at q members 0 ((P.the_type).to h) b o
    parts_are h = refl

    back : ent 𝓤 PuzzleBack (Back q b o)
    back =
        qed 𝓛 (raw PuzzleBack ∷ []) ∵ each ! (λ (h : Puzzle). wand 𝓤 (mean 𝓛 (Parts q h b o)) (sem 𝓛 (part_at P.the_row q h b o))) (λ h.
        assume {P = sem 𝓛 (part_at P.the_row q h b o)} ! (Parts q h b o) $ split ! $ use1 𝓛 (‵ (tuple_at h.board)) (board_in h.board) $ move ! (1 ∷ []) $ split ! $ move ! (1 ∷ []) $ split ! $ move ! (1 ∷ []) $ split ! $ move ! (1 ∷ []) $ split ! $
        -- [the number of clues; the kind; clues; the number of given walls; given walls; the board; the way back]
        nothing ! $ move ! (2 ∷ 0 ∷ []) $ fjoin ! $ move ! (1 ∷ 0 ∷ []) $ fjoin ! $ move ! (1 ∷ 0 ∷ []) $ fjoin ! $ move ! (1 ∷ 0 ∷ []) $ fjoin ! $ move ! (1 ∷ 0 ∷ []) $ fjoin ! $ move ! (1 ∷ 0 ∷ []) $ fjoin ! $
        rewrite ! 0 (λ (F : Fml). ‵ F) (parts_are h) refl $ move ! (1 ∷ []) $
        use1 𝓛 (raw (PuzzleAt ((P.the_type).to h))) (all_e 𝓤 PuzzleAt ((P.the_type).to h)) $ move ! (1 ∷ 0 ∷ []) $
        use2 𝓛 (‵ (part_at (Struct (shape P.the_type)) q ((P.the_type).to h) b o)) (apply∗ 𝓤 (sem 𝓛 (parts_at q members 0 ((P.the_type).to h) b o)) (sem 𝓛 (part_at (Struct (shape P.the_type)) q ((P.the_type).to h) b o))) $ by ! (puzzle_in h))

    pub apart : (h : Puzzle) → ent 𝓤 (sem 𝓛 (part_at P.the_row q h b o)) (sep 𝓤 (mean 𝓛 (Parts q h b o)) (Back q b o))
    apart h =
        qed 𝓛 (‵ (part_at P.the_row q h b o) ∷ []) ∵ use1 𝓛 (‵ (parts_at q members 0 ((P.the_type).to h) b o) ⊛ raw PuzzleBack) (puzzle_parts h) $ split ! $ rewrite ! 0 (λ (F : Fml). ‵ F) (sym (parts_are h)) refl $ fsplit ! $
        use1 𝓛 (‵ (board_at q h.board b o)) (board_out h.board) $ move ! (1 ∷ []) $ fsplit3 ! $ move ! (2 ∷ []) $ fsplit3 ! $ move ! (2 ∷ []) $ fsplit ! $
        -- [the kind; ..; clues; their number; given walls; their number; the board; the way back]
        move ! (3 ∷ 0 ∷ []) $ join ! $ move ! (2 ∷ 0 ∷ []) $ join ! $ move ! (3 ∷ 0 ∷ []) $ join ! $ move ! (2 ∷ 0 ∷ []) $ join ! $ move ! (2 ∷ 0 ∷ []) $ join ! $ frame ! $ keep ! (1 ∷ []) $ by ! back

    pub together : (h : Puzzle) → ent 𝓤 (sep 𝓤 (mean 𝓛 (Parts q h b o)) (Back q b o)) (sem 𝓛 (part_at P.the_row q h b o))
    together h =
        qed 𝓛 (Parts q h b o ∷ raw (Back q b o) ∷ []) ∵ move ! (1 ∷ 0 ∷ []) $
        use1 𝓛 (raw (wand 𝓤 (mean 𝓛 (Parts q h b o)) (sem 𝓛 (part_at P.the_row q h b o)))) (all_e 𝓤 (λ (d : Puzzle). wand 𝓤 (mean 𝓛 (Parts q d b o)) (sem 𝓛 (part_at P.the_row q d b o))) h) $ move ! (1 ∷ 0 ∷ []) $
        by ! (apply∗ 𝓤 (mean 𝓛 (Parts q h b o)) (sem 𝓛 (part_at P.the_row q h b o)))
