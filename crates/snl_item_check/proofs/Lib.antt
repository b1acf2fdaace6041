mod EachName
mod SameUses
mod SameView
mod Within
mod Bare
mod FaultsOnce
mod LeftToLinks
