-- Defined here: the generator's state, the calls that it picks, the file, and what the call answers (`Generator`); what is promised of a file, in
-- the terms of the files' reader and of the puzzle that is run (`Promise`); the file's parts as the code writes them (`Writing`); closed examples
-- (`Examples`).
-- Proved in proofs/Promise: the promise of every file that is written; that one seed makes one file, and a refusal changes no byte; which counts fit;
-- and that no state is 0. `BitLaws` says what a replacement does to each bit of the state.
pub mod Generator
pub mod Promise
pub mod Writing
pub mod Examples
