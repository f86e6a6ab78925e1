-- A board in memory is its parts in memory, side by side: its size, its two arrays and how many names its ledger has. At any share the parts are had at
-- once, and the parts of any board, with what is left, are that board. Assumes `Logic`.
use Prim.Native.Nat.{ℕ, ◌+◌}
use mathlib.Core.Path.{◌≡◌, refl, sym}
use mathlib.Core.List.{List, [], ◌∷◌}
use seplogic.Ra.Ura.{Ura}
use lib.ListN.{length}
use mir.Syntax.{w8, w16, w64, ty_int, ty_array}
use mir.Val.{Val}
use base.Logic.{SProp, ent, sep, wand, all, all_e, apply∗, id⊢}
use base.Fml.{Share, Fml, ftrue, fsep, fat}
use types.Logic.{Logic, sem}
use types.Kit.{Item, ‵, raw, ◌⊛◌, some, given, mean, ◌$◌, ◌∵◌, !, qed, by, move, keep, use1, use2, split, join, pick, rewrite, fsplit, fsplit3, fjoin, assume, check, each, frame}
use denote.RattleType.{RattleType, Denots}
use denote.Laws.{Is, shows}
use denote.Memory.{part_at, part_of, lone}
use denote.Builtin.{u8, u16, usize}
use denote.Array.{Array}
use denote.Steps.{peeks, nothing}
use denote.Struct.Struct.{Struct}
use denote.Struct.Declared.{fields, shape}
use denote.Struct.Laws.{lawfuls}
use denote.Struct.Members.{Member, parts_at}
use denote.Struct.Parts.{PartsBack, Struct-parts}
use borrow.Table.OneValue.{part_out, part_in}
use Rattle.grid.specs.contracts.Grid as G
use Rattle.grid.proofs.Grid.TheLaws as G'
use Rattle.ledger.specs.contracts.Book as K
use Rattle.ledger.proofs.Book.TheLaws as K'
use Rattle.grid.specs.declared.Grid.{Grid}
use Rattle.ledger.specs.declared.Book.{Book}
use Rattle.board.specs.declared.Board.{Board}
use Rattle.board.specs.contracts.Board as T
use Rattle.board.proofs.Board.TheLaws as T'

-- the rows of a board's arrays
abbrev pub States : RattleType
States = Array u8 1984

abbrev pub Names : RattleType
Names = Array u16 1984

-- the fields of a book and of a board
abbrev book_members : List Member
book_members = record { row = States; ty = ty_array (ty_int w8) 1984 } ∷ record { row = Names; ty = ty_array (ty_int w16) 1984 } ∷ record { row = usize; ty = ty_int w64 } ∷ []

abbrev board_members : List Member
board_members = record { row = (G.the_field).row; ty = G'.mir } ∷ record { row = (K.the_field).row; ty = K'.mir } ∷ []

-- each part at its place
abbrev pub grid_at : Share → Grid → ℕ → ℕ → Fml
grid_at q g b o = part_at G.the_row q g b (o + 0)

abbrev pub states_at : Share → List ℕ → ℕ → ℕ → Fml
states_at q s b o = part_at States q s b (o + 16 + 0)

abbrev pub names_at : Share → List ℕ → ℕ → ℕ → Fml
names_at q l b o = part_at Names q l b (o + 16 + 1984)

abbrev pub len_at : Share → ℕ → ℕ → ℕ → Fml
len_at q n b o = part_at usize q n b (o + 16 + 5952)

module _ {M : Type 1} {𝓤 : Ura M} (𝓛 : Logic 𝓤) where
  abbrev pub Parts : Share → Board → ℕ → ℕ → Item 𝓤
  Parts q h b o = ‵ (grid_at q h.grid b o) ⊛ ‵ (states_at q h.book.states b o) ⊛ ‵ (names_at q h.book.names b o) ⊛ ‵ (len_at q h.book.len b o)

  -- the parts of any board are that board
  abbrev pub Back : Share → ℕ → ℕ → SProp 𝓤
  Back q b o = all 𝓤 (λ (h : Board). wand 𝓤 (mean 𝓛 (Parts q h b o)) (sem 𝓛 (part_at T.the_row q h b o)))

  module _ (q : Share) (b o : ℕ) where
    book_parts : (k : Book) → ent 𝓤 (sem 𝓛 (part_at (Struct (shape K.the_type)) q ((K.the_type).to k) b (o + 16)))
        (sep 𝓤 (sem 𝓛 (parts_at q book_members 0 ((K.the_type).to k) b (o + 16))) (PartsBack 𝓛 q (K.the_type).name book_members b (o + 16)))
    book_parts k = Struct-parts 𝓛 q (K.the_type).name book_members (lawfuls 𝓛 (K.the_type).parts K'.the_laws) ((K.the_type).to k) b (o + 16)

    board_parts : (h : Board) → ent 𝓤 (sem 𝓛 (part_at T.the_row q h b o))
        (sep 𝓤 (sem 𝓛 (parts_at q board_members 0 ((T.the_type).to h) b o)) (PartsBack 𝓛 q (T.the_type).name board_members b o))
    unfolding part_of
    board_parts h = Struct-parts 𝓛 q (T.the_type).name board_members (lawfuls 𝓛 (T.the_type).parts T'.the_laws) ((T.the_type).to h) b o

    grid_out : (g : Grid) → ent 𝓤 (sem 𝓛 (part_at (Struct (shape G.the_type)) q ((G.the_type).to g) b (o + 0))) (sem 𝓛 (grid_at q g b o))
    unfolding part_of
    grid_out g = id⊢ 𝓤 _

    grid_in : (g : Grid) → ent 𝓤 (sem 𝓛 (grid_at q g b o)) (sem 𝓛 (part_at (Struct (shape G.the_type)) q ((G.the_type).to g) b (o + 0)))
    unfolding part_of
    grid_in g = id⊢ 𝓤 _

    board_in : (h : Board) → ent 𝓤 (sem 𝓛 (part_at (Struct (shape T.the_type)) q ((T.the_type).to h) b o)) (sem 𝓛 (part_at T.the_row q h b o))
    unfolding part_of
    board_in h = id⊢ 𝓤 _

    abbrev BookBack : SProp 𝓤
    BookBack = PartsBack 𝓛 q (K.the_type).name book_members b (o + 16)

    abbrev BoardBack : SProp 𝓤
    BoardBack = PartsBack 𝓛 q (T.the_type).name board_members b o

    abbrev BookAt : Denots (fields K.the_type) → SProp 𝓤
    BookAt a = wand 𝓤 (sem 𝓛 (parts_at q book_members 0 a b (o + 16))) (sem 𝓛 (part_at (Struct (shape K.the_type)) q a b (o + 16)))

    abbrev BoardAt : Denots (fields T.the_type) → SProp 𝓤
    BoardAt a = wand 𝓤 (sem 𝓛 (parts_at q board_members 0 a b o)) (sem 𝓛 (part_at (Struct (shape T.the_type)) q a b o))

    book_are : (k : Book) → fsep (states_at q k.states b o) (fsep (names_at q k.names b o) (fsep (len_at q k.len b o) ftrue)) ≡ parts_at q book_members 0 ((K.the_type).to k) b (o + 16)
    book_are k = refl

    board_are : (h : Board) → fsep (part_at (Struct (shape G.the_type)) q ((G.the_type).to h.grid) b (o + 0)) (fsep (part_at (Struct (shape K.the_type)) q ((K.the_type).to h.book) b (o + 16)) ftrue) ≡ parts_at q board_members 0 ((T.the_type).to h) b o
    board_are h = refl

    -- both ways back, one after the other
    back : ent 𝓤 (sep 𝓤 BookBack BoardBack) (Back q b o)
    back =
        qed 𝓛 (raw BookBack ∷ raw BoardBack ∷ []) ∵ each ! (λ (h : Board). wand 𝓤 (mean 𝓛 (Parts q h b o)) (sem 𝓛 (part_at T.the_row q h b o))) (λ h.
        assume {P = sem 𝓛 (part_at T.the_row q h b o)} ! (Parts q h b o) $ split ! $ move ! (1 ∷ []) $ split ! $ move ! (1 ∷ []) $ split ! $
        -- [names; len; states; grid; the book's way back; the board's]
        nothing ! $ move ! (2 ∷ 0 ∷ []) $ fjoin ! $ move ! (1 ∷ 0 ∷ []) $ fjoin ! $ move ! (1 ∷ 0 ∷ []) $ fjoin ! $
        rewrite ! 0 (λ (P : Fml). ‵ P) (book_are h.book) refl $ move ! (2 ∷ 0 ∷ []) $
        use1 𝓛 (raw (BookAt ((K.the_type).to h.book))) (all_e 𝓤 BookAt ((K.the_type).to h.book)) $ move ! (1 ∷ 0 ∷ []) $
        use2 𝓛 (‵ (part_at (Struct (shape K.the_type)) q ((K.the_type).to h.book) b (o + 16))) (apply∗ 𝓤 (sem 𝓛 (parts_at q book_members 0 ((K.the_type).to h.book) b (o + 16))) (sem 𝓛 (part_at (Struct (shape K.the_type)) q ((K.the_type).to h.book) b (o + 16)))) $
        nothing ! $ move ! (1 ∷ 0 ∷ []) $ fjoin ! $ move ! (1 ∷ []) $ use1 𝓛 (‵ (part_at (Struct (shape G.the_type)) q ((G.the_type).to h.grid) b (o + 0))) (grid_in h.grid) $ fjoin ! $
        rewrite ! 0 (λ (P : Fml). ‵ P) (board_are h) refl $ move ! (1 ∷ []) $
        use1 𝓛 (raw (BoardAt ((T.the_type).to h))) (all_e 𝓤 BoardAt ((T.the_type).to h)) $ move ! (1 ∷ 0 ∷ []) $
        use2 𝓛 (‵ (part_at (Struct (shape T.the_type)) q ((T.the_type).to h) b o)) (apply∗ 𝓤 (sem 𝓛 (parts_at q board_members 0 ((T.the_type).to h) b o)) (sem 𝓛 (part_at (Struct (shape T.the_type)) q ((T.the_type).to h) b o))) $ by ! (board_in h))

    pub apart : (h : Board) → ent 𝓤 (sem 𝓛 (part_at T.the_row q h b o)) (sep 𝓤 (mean 𝓛 (Parts q h b o)) (Back q b o))
    apart h =
        qed 𝓛 (‵ (part_at T.the_row q h b o) ∷ []) ∵
        use1 𝓛 (‵ (parts_at q board_members 0 ((T.the_type).to h) b o) ⊛ raw BoardBack) (board_parts h) $ split ! $ rewrite ! 0 (λ (P : Fml). ‵ P) (sym (board_are h)) refl $ fsplit3 ! $ move ! (1 ∷ []) $
        use1 𝓛 (‵ (parts_at q book_members 0 ((K.the_type).to h.book) b (o + 16)) ⊛ raw BookBack) (book_parts h.book) $ split ! $ rewrite ! 0 (λ (P : Fml). ‵ P) (sym (book_are h.book)) refl $ fsplit3 ! $ move ! (2 ∷ []) $ fsplit ! $
        -- [len; ..; states; names; the book's way back; grid; ..; the board's]
        move ! (3 ∷ 0 ∷ []) $ join ! $ move ! (2 ∷ 0 ∷ []) $ join ! $ move ! (3 ∷ []) $ use1 𝓛 (‵ (grid_at q h.grid b o)) (grid_out h.grid) $ join ! $ frame ! $
        keep ! (1 ∷ 3 ∷ []) $ by ! back

    -- an array has as many elements as its type says
    pub states_long : (s : List ℕ) → ent 𝓤 (sem 𝓛 (states_at q s b o)) (mean 𝓛 (given (length s ≡ 1984) (‵ (states_at q s b o))))
    states_long s =
        qed 𝓛 (‵ (states_at q s b o) ∷ []) ∵ use1 𝓛 (some (λ (v : Val). ‵ (fat q (lone States.mir) b (o + 16 + 0) v) ⊛ ‵ (States.own_val s (v ∷ [])))) (part_out 𝓛 States refl q s b (o + 16 + 0)) $ pick ! (λ v.
        split ! $ move ! (1 ∷ []) $ peeks ! States (Is States) (shows 𝓛 States) s (v ∷ []) (λ is.
        check ! is.1.0.1 $ move ! (1 ∷ 0 ∷ []) $ by ! (part_in 𝓛 States refl q s b (o + 16 + 0) v)))

    pub names_long : (l : List ℕ) → ent 𝓤 (sem 𝓛 (names_at q l b o)) (mean 𝓛 (given (length l ≡ 1984) (‵ (names_at q l b o))))
    names_long l =
        qed 𝓛 (‵ (names_at q l b o) ∷ []) ∵ use1 𝓛 (some (λ (v : Val). ‵ (fat q (lone Names.mir) b (o + 16 + 1984) v) ⊛ ‵ (Names.own_val l (v ∷ [])))) (part_out 𝓛 Names refl q l b (o + 16 + 1984)) $ pick ! (λ v.
        split ! $ move ! (1 ∷ []) $ peeks ! Names (Is Names) (shows 𝓛 Names) l (v ∷ []) (λ is.
        check ! is.1.0.1 $ move ! (1 ∷ 0 ∷ []) $ by ! (part_in 𝓛 Names refl q l b (o + 16 + 1984) v)))

    pub together : (h : Board) → ent 𝓤 (sep 𝓤 (mean 𝓛 (Parts q h b o)) (Back q b o)) (sem 𝓛 (part_at T.the_row q h b o))
    together h =
        qed 𝓛 (Parts q h b o ∷ raw (Back q b o) ∷ []) ∵ move ! (1 ∷ 0 ∷ []) $
        use1 𝓛 (raw (wand 𝓤 (mean 𝓛 (Parts q h b o)) (sem 𝓛 (part_at T.the_row q h b o)))) (all_e 𝓤 (λ (d : Board). wand 𝓤 (mean 𝓛 (Parts q d b o)) (sem 𝓛 (part_at T.the_row q d b o))) h) $ move ! (1 ∷ 0 ∷ []) $
        by ! (apply∗ 𝓤 (mean 𝓛 (Parts q h b o)) (sem 𝓛 (part_at T.the_row q h b o)))
