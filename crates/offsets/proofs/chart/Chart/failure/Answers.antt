-- `offsets::chart::Chart::failure` meets its contract: a border that must land well, its landing, and the state there. Assumes nothing.
use mathlib.Core.Path.{sym, ◌∙◌}
use Rattle.offsets.specs.Landings.{is_inner}
use Rattle.offsets.proofs.LandingLaws.{not_kept, turning_small, outside, landed_border, lands_so}
use Rattle.offsets.proofs.chart.Chart.failure.Goals as goal

pub returns-then-not-keeps : goal.returns-then-not-keeps
returns-then-not-keeps c =
    let a = c.args in
    not_kept a.self.borders.fits a.self.table_of c.requires (is_inner a.kind) a.direction (sym c.keeps.ensures ∙ c.if-not-keeps.true)

pub lands-requires : goal.lands-requires
lands-requires c =
    let a = c.args in
    turning_small a.self.borders.fits a.self.table_of c.requires (is_inner a.kind) a.direction c.spot-spot.ensures

pub returns-in_err-border : goal.returns-in_err-border
returns-in_err-border c =
    let a = c.args in
    c.from_residual.ensures
    ∙ outside a.self.borders.fits a.self.table_of c.requires (is_inner a.kind) a.direction c.spot-spot.ensures c.lands.ensures c.in_err-border.was

pub entry-entry-requires : goal.entry-entry-requires
entry-entry-requires c =
    let a = c.args in
    (landed_border a.self.borders.fits a.self.table_of c.requires (is_inner a.kind) a.direction c.spot-spot.ensures c.lands.ensures c.in_ok-border.was).1

pub bounds-self-border : goal.bounds-self-border
bounds-self-border c =
    let a = c.args in
    (landed_border a.self.borders.fits a.self.table_of c.requires (is_inner a.kind) a.direction c.spot-spot.ensures c.lands.ensures c.in_ok-border.was).0

pub returns : goal.returns
returns c =
    let a = c.args in
    c.then_some.ensures
    ∙ rw (c.is_bad.ensures, c.entry-entry.ensures, c.is_inner.ensures)
    (lands_so a.self.borders.fits a.self.table_of c.requires (is_inner a.kind) a.direction c.spot-spot.ensures c.lands.ensures c.in_ok-border.was (sym c.keeps.ensures ∙ c.if-not-keeps.false))
