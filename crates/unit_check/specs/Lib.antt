-- Defined here: a board's units with the lists of adjacent potential units (`Stage`), what finding the first unit that fits nowhere promises
-- (`Find`), what writing its list does (`Write`), and the stage (`Units`). A unit's fault is `unit_fault` of shape/specs/Shape.antt.
pub mod Stage
pub mod Finder
pub mod Find
pub mod Write
pub mod Units
