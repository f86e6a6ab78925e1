-- `lines::pen::digits` recurses as the definition does, on the places. Assumes nothing.
use Rattle.lines.proofs.pen.+digits.Given as goal

abbrev pub decreases-digits : goal.decreases-digits
decreases-digits l = l.places
