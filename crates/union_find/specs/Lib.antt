-- Defined here: chains of parents and what find and unite make of them (`Chains`), what the inner functions ask (`Requires`), the
-- answers of the three calls (`UnionFind`), and lists of calls with the pairs that they unite (`Calls`). `Examples` computes unions of three vertices.
-- Proved in proofs/: a vertex has one root, and a chain that ends does so within as many steps as there are vertices (`RootLaws`); find keeps
-- parents good and changes no vertex' root (`KeepLaws`), and exactly the vertices on the chain then name it (`ShortLaws`); unite keeps
-- parents good and makes exactly two parts one (`UniteLaws`); the same of whole records (`CallLaws`); after every list of calls two vertices
-- have one root exactly when the pairs united so far join them (`JoinLaws`, `Theorem`).
pub mod Chains
pub mod Requires
pub mod UnionFind
pub mod Calls
pub mod Examples
