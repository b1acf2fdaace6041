mod Listed
mod NearWords
mod Shortened
mod Texts
