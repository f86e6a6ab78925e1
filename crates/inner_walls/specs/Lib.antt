-- Defined here: what the stage of inner Walls asks (`Asked`). The stage itself is `inner_wall` of shape/specs/Shape.antt.
pub mod Asked
