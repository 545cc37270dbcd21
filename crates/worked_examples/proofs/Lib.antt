pub mod ValidQuads
