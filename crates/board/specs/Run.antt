-- A board after a list of calls, each on the board that the one before returned. Assumes nothing.
use Rattle.std.specs.Prelude.{List, [], ◌∷◌}
use Rattle.ledger.specs.Ledger.{Call, stroke, undo, ask}
use Rattle.board.specs.declared.Board.{Board}
use Rattle.board.specs.Board.{stroke_of, undo_of}

-- an ask returns no board and changes none
unfoldable pub board_after : Board → Call → Board
board_after b (stroke ds) = (stroke_of b ds).board
board_after b undo = (undo_of b).board
board_after b ask = b

unfoldable pub run : Board → List Call → Board
unfolding board_after
run b [] = b
run b (c ∷ cs) = run (board_after b c) cs
