-- Defined here, over any neighbour relation and any states of the borders: units, potential units and the laws of a full board that
-- concern shape (`Frame`).
-- Proved in proofs/, of offsets that are good and that fail (`Offset`): a list that stands leaves a unit's failed offsets failed (`Never`),
-- and on a full board a good offset is one that takes the unit to a different unit that shares a Wall with it (`Partners`).
pub mod Frame
