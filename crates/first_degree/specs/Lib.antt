pub mod FirstHashes
