-- The posts of signals. This project's own rule; signal numbers are chosen after Linux's.
use Rattle.std.specs.Prelude.{◌≤◌, ◌<◌, ◌^◌, List}
use Rattle.std.specs.List.{AllByRecursion}
use Rattle.dos_world.specs.declared.Post.{Post}

-- a post that may be made: a signal from 1 to 31, to any process number of 32 bits
pub record FitsPost (post : Post) : Type 0 where
  pub pid : post.pid < 2 ^ 32
  pub low : 1 ≤ post.signal
  pub high : post.signal ≤ 31

-- each of these
abbrev pub ArePosts : List Post → Type 0
ArePosts = AllByRecursion FitsPost
