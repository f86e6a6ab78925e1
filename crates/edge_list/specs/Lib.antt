-- Defined here: the ends of a list of edge records as two lists of numbers, and how many of them are copied (`EdgeList`). What is made of them
-- is `city_count`'s `make_of`.
pub mod EdgeList
